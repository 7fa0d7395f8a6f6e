-- Running sums: how they change with one more field, and the averages that they give.
use Rattle.std.proofs.Common.{◌≡◌, ℕ, ℤ, pos, neg_ℤ, ◌+◌, ◌*◌, ◌<◌, ◌≤◌, ◌+ℤ◌, ◌≤ℤ◌, List, [], ◌∷◌, ◌++◌, length, get_or, map, replicate, set, refl, subst, sym, ap, ◌∙◌, arith, inl, inr}
use Rattle.std.specs.List.{All, range_with_len}
use Rattle.std.proofs.lemmas.Bool.{cases_lt}
use Rattle.std.proofs.lemmas.Int.{ints}
use Rattle.std.proofs.lemmas.List.{get_or-map, get_or-replicate, get_or-set_other, get_or-set_same, get_or_past, length-map, length-replicate, length_push}
use Rattle.std.proofs.lemmas.List.Elements.{All-from_get_or, All-get_or, All-head, All-map, All-push, All-tail, All-weaker}
use Rattle.std.proofs.lemmas.List.FromFn.{fill_by_all, get_or-map-range_with_len, length-map-range_with_len}
use Rattle.std.specs.Int.{w64}
use Rattle.cpl_base.specs.Numbers.{IsValue, greatest}
use Rattle.cpl_base.specs.Rounding.{near_of}
use Rattle.cpl_mediator.specs.Averages.{IsSumOf, RunningSums, StandsFor, average_at, average_of, no_sums, number_at, sum_at, sums_with}
use Rattle.cpl_mediator.proofs.NearFacts.{near_of-high, near_of-low}
use mir.Val.{SFits}

-- no number is summed
pub IsSumOf-zero : IsSumOf 0 (pos 0)
IsSumOf-zero = record { low = omega (arith, ints); high = omega (arith, ints) }

-- one more number
pub IsSumOf-more : (count : ℕ) (sum number : ℤ) → IsSumOf count sum → SFits w64 number → IsSumOf (count + 1) (sum +ℤ number)
IsSumOf-more count sum number is fits = record { low = omega (arith, ints, is.low); high = omega (arith, ints, is.high) }

-- a number of sums with one more field
number_at-sums_with : (sums field : List ℤ) (cell : ℕ) → cell < length sums → number_at (sums_with sums field) cell ≡ number_at sums cell +ℤ number_at field cell
number_at-sums_with sums field cell within = get_or-map-range_with_len (λ k. number_at sums k +ℤ number_at field k) 0 (length sums) cell cell (pos 0) within (omega arith)

-- sums of so many numbers, with one more field of 64 bits
pub IsSumOf-sums_with : (count : ℕ) (sums field : List ℤ) → All (IsSumOf count) sums → ((k : ℕ) → k < length sums → SFits w64 (number_at field k)) → All (IsSumOf (count + 1)) (sums_with sums field)
IsSumOf-sums_with count sums field all fits =
    let same : length (sums_with sums field) ≡ length sums = length-map-range_with_len (λ k. number_at sums k +ℤ number_at field k) 0 (length sums) in
    All-from_get_or (IsSumOf (count + 1)) (sums_with sums field) (pos 0) (λ k below.
    let within : k < length sums = omega arith in
    let P : ℤ → Type 0 = IsSumOf (count + 1) in
    rw (number_at-sums_with sums field k within) (IsSumOf-more count (number_at sums k) (number_at field k) (All-get_or (IsSumOf count) sums k (pos 0) within all) (fits k within)))

-- the sum at a cell with one more field
sum_at-push : (kept : List (List ℤ)) (field : List ℤ) (cell : ℕ) → sum_at (kept ++ field ∷ []) cell ≡ sum_at kept cell +ℤ number_at field cell
sum_at-push [] field cell = omega (arith, ints)
sum_at-push (first ∷ kept) field cell = let rest = sum_at-push kept field cell in omega (arith, ints, rest)

-- what the sums of a list of fields are at a cell
number_at-sums : (running : RunningSums) (kept : List (List ℤ)) (cell : ℕ) → StandsFor running kept → cell < length running.sums → number_at running.sums cell ≡ sum_at kept cell
number_at-sums running kept cell stands within =
    ap (λ sums. number_at sums cell) stands.sums
    ∙ get_or-map-range_with_len (sum_at kept) 0 (length running.sums) cell cell (pos 0) within (omega arith)

-- up to a cell a field's numbers are added to the sums, from there on they aren't
pub record IsAddedUpTo (sums field now : List ℤ) (cell : ℕ) : Type 0 where
  pub done : (k : ℕ) → k < cell → number_at now k ≡ number_at sums k +ℤ number_at field k
  pub ahead : (k : ℕ) → cell ≤ k → number_at now k ≡ number_at sums k

-- one cell more
pub IsAddedUpTo-more : (sums field now : List ℤ) (cell : ℕ) (sum : ℤ) → cell < length now → sum ≡ number_at now cell +ℤ number_at field cell → IsAddedUpTo sums field now cell → IsAddedUpTo sums field (set now cell sum) (cell + 1)
IsAddedUpTo-more sums field now cell sum within is added = record {
  done = λ k below. elim (cases_lt k cell) [
    | inl before ↦ get_or-set_other now cell k sum (pos 0) (omega arith) ∙ added.done k before
    | inr here ↦
        let same : k ≡ cell = omega arith in
        ap (λ j. number_at (set now cell sum) j) same
        ∙ get_or-set_same now cell sum (pos 0) within
        ∙ is
        ∙ ap (λ x. x +ℤ number_at field cell) (added.ahead cell (omega arith))
        ∙ ap (λ j. number_at sums j +ℤ number_at field j) (sym same)
  ];
  ahead = λ k from. get_or-set_other now cell k sum (pos 0) (omega arith) ∙ added.ahead k (omega arith);
}

-- all cells
pub IsAddedUpTo-all : (sums field now : List ℤ) (cell : ℕ) → length sums ≤ cell → length now ≡ length sums → IsAddedUpTo sums field now cell → now ≡ sums_with sums field
IsAddedUpTo-all sums field now cell all same added =
    fill_by_all (λ k. number_at sums k +ℤ number_at field k) now (length sums) (pos 0) same (λ k below. added.done k (omega arith))

-- the averages of sums, where each is 0 afterwards
pub averages-all : (sums into : List ℤ) (count cell : ℕ) → length sums ≤ cell → length into ≡ length sums → ((k : ℕ) → k < cell → number_at into k ≡ near_of (number_at sums k) (pos count)) → into ≡ map (λ sum. near_of sum (pos count)) sums
averages-all sums into count cell all same averages =
    let f : ℤ → ℤ = λ sum. near_of sum (pos count) in
    fill_by_all (λ k. f (number_at sums k)) into (length sums) (pos 0) same (λ k below. averages k (omega arith))
    ∙ sym (fill_by_all (λ k. f (number_at sums k)) (map f sums) (length sums) (pos 0) (length-map sums f) (λ k below. get_or-map f sums k (pos 0) (pos 0) below))

-- a list of zeros
pub zeros-all : (sums : List ℤ) (count cell : ℕ) → count ≤ cell → length sums ≡ count → ((k : ℕ) → k < cell → number_at sums k ≡ pos 0) → sums ≡ replicate count (pos 0)
zeros-all sums count cell all same zero =
    fill_by_all (λ _. pos 0) sums count (pos 0) same (λ k below. zero k (omega arith))
    ∙ sym (fill_by_all (λ _. pos 0) (replicate count (pos 0)) count (pos 0) (length-replicate count (pos 0)) (λ k below. get_or-replicate count k (pos 0) (pos 0) below))

-- no field, and its sums
pub StandsFor-none : (cells : ℕ) → StandsFor (no_sums cells) []
StandsFor-none cells =
    let same = length-replicate cells (pos 0) in
    record {
      count = refl;
      cells = λ k d below. absurd (omega arith);
      sums = fill_by_all (sum_at []) (replicate cells (pos 0)) (length (replicate cells (pos 0))) (pos 0) refl (λ k below. get_or-replicate cells k (pos 0) (pos 0) (omega (arith, same)));
    }

pub StandsFor-fresh : (running : RunningSums) (cells : ℕ) → running ≡ no_sums cells → StandsFor running []
StandsFor-fresh running cells is =
    let P : RunningSums → Type 0 = λ r. StandsFor r [] in
    subst P (sym is) (StandsFor-none cells)

-- one more field
pub StandsFor-push : (old new : RunningSums) (kept : List (List ℤ)) (field : List ℤ) → StandsFor old kept → length field ≡ length old.sums → new.count ≡ old.count + 1 → new.sums ≡ sums_with old.sums field → StandsFor new (kept ++ field ∷ [])
StandsFor-push old new kept field stands whole count sums =
    let same : length new.sums ≡ length old.sums = ap length sums ∙ length-map-range_with_len (λ k. number_at old.sums k +ℤ number_at field k) 0 (length old.sums) in
    record {
      count = count ∙ ap (λ n. n + 1) stands.count ∙ sym (length_push kept field);
      cells = All-push (λ one. length one ≡ length new.sums) kept field (All-weaker (λ one. length one ≡ length old.sums) (λ one. length one ≡ length new.sums) (λ one is. is ∙ sym same) kept stands.cells) (whole ∙ sym same);
      sums = fill_by_all (sum_at (kept ++ field ∷ [])) new.sums (length new.sums) (pos 0) refl (λ k below.
          let within : k < length old.sums = omega arith in
          ap (λ all. number_at all k) sums
          ∙ number_at-sums_with old.sums field k within
          ∙ ap (λ sum. sum +ℤ number_at field k) (number_at-sums old kept k stands within)
          ∙ sym (sum_at-push kept field k));
    }

-- the averages of the sums are those of the fields
pub average_of-sums : (running : RunningSums) (kept : List (List ℤ)) → StandsFor running kept → map (λ sum. near_of sum (pos running.count)) running.sums ≡ average_of (length running.sums) kept
average_of-sums running kept stands =
    fill_by_all (average_at kept) (map (λ sum. near_of sum (pos running.count)) running.sums) (length running.sums) (pos 0) (length-map running.sums (λ sum. near_of sum (pos running.count))) (λ k below.
    get_or-map (λ sum. near_of sum (pos running.count)) running.sums k (pos 0) (pos 0) below
    ∙ (λ i. near_of (number_at-sums running kept k stands below i) (pos (stands.count i))))

-- a number of a field of values
number_at-value : (field : List ℤ) (cell : ℕ) → All IsValue field → IsValue (number_at field cell)
number_at-value field cell all = elim (cases_lt cell (length field)) [
  | inl within ↦ All-get_or IsValue field cell (pos 0) within all
  | inr past ↦ let P : ℤ → Type 0 = IsValue in rw (get_or_past field cell (pos 0) past) (omega arith)
]

-- the sum of so many values
record IsWithin (count : ℕ) (sum : ℤ) : Type 0 where
  low : neg_ℤ (pos (count * greatest)) ≤ℤ sum
  high : sum ≤ℤ pos (count * greatest)

sum_at-within : (kept : List (List ℤ)) (cell : ℕ) → All (All IsValue) kept → IsWithin (length kept) (sum_at kept cell)
sum_at-within [] cell all = record { low = omega (arith, ints); high = omega (arith, ints) }
sum_at-within (field ∷ kept) cell all =
    let first = number_at-value field cell (All-head (All IsValue) field kept all) in
    let rest = sum_at-within kept cell (All-tail (All IsValue) field kept all) in
    record { low = omega (arith, ints, first, rest.low); high = omega (arith, ints, first, rest.high) }

-- the average of values is a value
average_at-value : (kept : List (List ℤ)) (cell : ℕ) → 0 < length kept → All (All IsValue) kept → IsValue (average_at kept cell)
average_at-value kept cell some all =
    let within = sum_at-within kept cell all in
    let low = near_of-low (sum_at kept cell) (length kept) greatest some within.low in
    let high = near_of-high (sum_at kept cell) (length kept) greatest some within.high in
    omega (arith, ints, low, high)

pub average_of-values : (cells : ℕ) (kept : List (List ℤ)) → 0 < length kept → All (All IsValue) kept → All IsValue (average_of cells kept)
average_of-values cells kept some all =
    All-map IsValue (average_at kept) (range_with_len 0 cells) (λ k d below. average_at-value kept (get_or (range_with_len 0 cells) k d) some all)
