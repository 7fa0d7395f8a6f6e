-- Factors of a file, sorted by their cells.
use Rattle.std.proofs.Common.{◌≡◌, ◌∙◌, ℕ, zero, suc, ◌+◌, ◌<◌, ◌≤◌, ◌==◌, Bool, false, List, [], ◌∷◌, length, get_or, Option, None, Some, refl, sym, ap, subst, inl, inr, arith, add-one}
use Rattle.std.proofs.lemmas.Bool.{cases_eq, cases_lt, eq-eqb, ne_eqb, false≢true}
use Rattle.std.proofs.lemmas.List.Sorted.{IsPermutation-sym, length_permutation, ties_still_rise}
use Rattle.std.proofs.lemmas.Map.Keys.{IsDistinct-IsPermutation, IsDistinct-cons, IsDistinct-from_apart, IsDistinct-head, IsDistinct-tail}
use Rattle.std.specs.Cmp.{nat_cmp_is}
use Rattle.std.specs.List.{AllByRecursion, IsDistinct}
use Rattle.std.specs.List.Sorted.{IsNonDecreasingBy, IsPermutation, IsSortedByKey, IsStableByKey}
use Rattle.std.specs.Ordering.{is_lt, nat_cmp}
use Rattle.std.specs.declared.cmp.Ordering.TheVariants.{Greater}
use Rattle.cpl_smm.specs.Kept.{Ascends, AreSorted, IsRanged, kept_factor, kept_from, least_repeat, pair_of}
use Rattle.cpl_smm.specs.Records.{Factor, IsWeight, most_records}
use Rattle.cpl_smm.specs.declared.entries.KeptFactor.{KeptFactor}
use Rattle.cpl_smm.proofs.JudgedFacts.{IsFactor, kept_from-number, repeat-least, repeat_behind}
use Rattle.cpl_smm.proofs.MemberFacts.{All-from_in, IsIn, is_in-permutation}
use Rattle.cpl_smm.proofs.OrderFacts.{Ascends-unique}
use Rattle.cpl_smm.proofs.RepeatFacts.{Climbs, Climbs-member, IsLeastRepeat, IsLeastRepeat-same, IsRepeat, least_repeat-least, rank}
use Rattle.cpl_smm.proofs.RowFacts.{sorted-of}

-- two factors have one number
abbrev same_number : KeptFactor → KeptFactor → Bool
same_number a b = a.number == b.number

-- a number below others
other-number : (n m : ℕ) (factor : KeptFactor) (factors : List Factor) → factor.number ≡ n → n < m → AllByRecursion (λ k. same_number factor k ≡ false) (kept_from m factors)
other-number n m factor [] is less = tt
other-number n m factor (next ∷ factors) is less = (ne_eqb factor.number m (λ e. omega (arith, is, less, e)), other-number n (m + 1) factor factors is (omega (arith, less)))

-- no number stands twice
kept_from-distinct : (n : ℕ) (factors : List Factor) → IsDistinct same_number (kept_from n factors)
kept_from-distinct n [] = IsDistinct-from_apart same_number [] (λ i j d less few. absurd (omega arith))
kept_from-distinct n (factor ∷ factors) =
    IsDistinct-cons same_number (kept_factor n factor) (kept_from (n + 1) factors) (other-number n (n + 1) (kept_factor n factor) factors refl (omega arith)) (kept_from-distinct (n + 1) factors)

-- tests of numbers turn around
same_number-flips : (a b : KeptFactor) → same_number a b ≡ same_number b a
same_number-flips a b = elim (cases_eq a.number b.number) [
  | inl same ↦ eq-eqb a.number b.number same ∙ sym (eq-eqb b.number a.number (sym same))
  | inr other ↦ ne_eqb a.number b.number other ∙ sym (ne_eqb b.number a.number (λ e. other (sym e)))
]

-- the number at a place
number-at : (n k : ℕ) (factors : List Factor) (d : KeptFactor) → k < length (kept_from n factors) → (get_or (kept_from n factors) k d).number ≡ n + k
number-at n k [] d few = absurd (omega arith)
number-at n zero (factor ∷ factors) d few = omega arith
number-at n (suc k) (factor ∷ factors) d few = number-at (n + 1) k factors d (omega arith) ∙ omega arith

-- a greater number isn't less
greater-not_less : (a b : ℕ) → b < a → is_lt (nat_cmp a b) ≡ false
greater-not_less a b less = ap is_lt (sym (nat_cmp_is a b Greater less))

-- numbers are sorted in the file
kept_from-sorted : (n : ℕ) (factors : List Factor) → IsSortedByKey (λ (k : KeptFactor). k.number) nat_cmp (kept_from n factors)
kept_from-sorted n factors = λ k d from few.
    let here = number-at n k factors d (omega (arith, few)) in
    let next = number-at n (k + 1) factors d few in
    greater-not_less (get_or (kept_from n factors) (k + 1) d).number (get_or (kept_from n factors) k d).number (omega (arith, here, next))

-- the next factor has no lesser pair, and no lesser number where the pairs are equal
abbrev NotBelow : KeptFactor → KeptFactor → Type 0
NotBelow a b = (pair_of a ≤ pair_of b) × (pair_of a ≡ pair_of b → a.number ≤ b.number)

-- what holds of all holds of the first
first-of : (P : KeptFactor → Type 0) (factors : List KeptFactor) (d : KeptFactor) → 0 < length factors → AllByRecursion P factors → P (get_or factors 0 d)
first-of P [] d some all = absurd (omega arith)
first-of P (factor ∷ factors) d some all = all.0

-- factors without a number twice climb, where none is below the one before it
climbs-from : (low : ℕ) (factors : List KeptFactor) → ((d : KeptFactor) → 0 < length factors → low < rank (get_or factors 0 d))
    → ((k : KeptFactor) → IsIn k factors → k.number < 8388608) → IsDistinct same_number factors
    → ((k : ℕ) (d : KeptFactor) → suc k < length factors → NotBelow (get_or factors k d) (get_or factors (suc k) d)) → Climbs low factors
unfolding Climbs
climbs-from low [] first few distinct next = tt
climbs-from low (factor ∷ factors) first few distinct next = (
  first factor (omega arith),
  few factor (inl refl),
  climbs-from (rank factor) factors
      (λ d some.
      let (pair, number) = next 0 d (omega (arith, some)) in
      let other = first-of (λ k. same_number factor k ≡ false) factors d some (IsDistinct-head same_number factor factors distinct) in
      let differ : factor.number ≡ (get_or factors 0 d).number → ⊥ = λ e. false≢true (sym other ∙ eq-eqb factor.number (get_or factors 0 d).number e) in
      elim (cases_eq (pair_of factor) (pair_of (get_or factors 0 d))) [
        | inl same ↦ let less = number same in omega (arith, same, less, differ)
        | inr more ↦ let small = few factor (inl refl) in omega (arith, pair, more, small)
      ])
      (λ k here. few k (inr here)) (IsDistinct-tail same_number factor factors distinct) (λ k d more. next (suc k) d (omega (arith, more))),
)

-- what the sort of a file's factors gives
pub record IsSortOf (factors : List Factor) (sorted : List KeptFactor) : Type 0 where
  pub moved : IsPermutation (kept_from 1 factors) sorted
  pub pairs : IsNonDecreasingBy (λ (k : KeptFactor). pair_of k) sorted
  pub stable : IsStableByKey (λ (k : KeptFactor). pair_of k) nat_cmp (kept_from 1 factors) sorted

-- A file's factors: of so many cells, and not too many.
pub record AreFactors (src_cells dst_cells : ℕ) (factors : List Factor) : Type 0 where
  pub each : (x : Factor) → IsIn x factors → IsFactor src_cells dst_cells x
  pub few : length factors ≤ most_records
  pub cells : src_cells < 4294967296

-- numbers are from 1 on
sorted-number : (factors : List Factor) (sorted : List KeptFactor) (k : KeptFactor) → IsPermutation (kept_from 1 factors) sorted → IsIn k sorted
    → (1 ≤ k.number) × (k.number < 1 + length factors)
sorted-number factors sorted k moved here =
    kept_from-number 1 factors k (is_in-permutation sorted (kept_from 1 factors) k (IsPermutation-sym (kept_from 1 factors) sorted moved) here)

-- the first is a member
first-in : (factors : List KeptFactor) (d : KeptFactor) → 0 < length factors → IsIn (get_or factors 0 d) factors
first-in [] d some = absurd (omega arith)
first-in (factor ∷ factors) d some = inl refl

-- as many are kept as there are
pub length-kept : (n : ℕ) (factors : List Factor) → length (kept_from n factors) ≡ length factors
length-kept n [] = refl
length-kept n (factor ∷ factors) = ap suc (length-kept (n + 1) factors)

-- sorted factors of a file climb
sorted-climbs : (src_cells dst_cells : ℕ) (factors : List Factor) (sorted : List KeptFactor) → AreFactors src_cells dst_cells factors → IsSortOf factors sorted → Climbs 0 sorted
sorted-climbs src_cells dst_cells factors sorted ranged sort =
    climbs-from 0 sorted
    (λ d some.
    let (from, to) = sorted-number factors sorted (get_or sorted 0 d) sort.moved (first-in sorted d some) in omega (arith, from))
    (λ k here. let (from, to) = sorted-number factors sorted k sort.moved here in let few = ranged.few in omega (arith, to, few))
    (IsDistinct-IsPermutation same_number same_number-flips (kept_from 1 factors) sorted sort.moved (kept_from-distinct 1 factors))
    (λ k d more.
    let P : ℕ → Type 0 = λ n. NotBelow (get_or sorted k d) (get_or sorted n d) in
    let next : k + 1 < length sorted = omega (arith, more) in
    subst P (add-one k) (
      sort.pairs k (k + 1) d (omega arith) next,
      ties_still_rise (λ (k : KeptFactor). k.number) (λ (k : KeptFactor). pair_of k) (kept_from 1 factors) sorted (kept_from-sorted 1 factors) sort.stable k d next,
    ))

-- factors that climb ascend, where none has the cells of an earlier one
climbs-ascend : (low high : ℕ) (factors : List KeptFactor) → Climbs low factors → ((k : KeptFactor) → IsIn k factors → high < pair_of k)
    → ((k : KeptFactor) → IsIn k factors → k.src < 4294967296)
    → ((a b : KeptFactor) → IsRepeat factors a b → ⊥) → Ascends high factors
unfolding Climbs Ascends
climbs-ascend low high [] up above narrow unique = tt
climbs-ascend low high (factor ∷ factors) up above narrow unique = (
  above factor (inl refl),
  narrow factor (inl refl),
  climbs-ascend (rank factor) (pair_of factor) factors up.2
      (λ k there.
      let (more, few) = Climbs-member (rank factor) factors k up.2 there in
      elim (cases_lt (pair_of factor) (pair_of k)) [
        | inl less ↦ less
        | inr same ↦ absurd (unique factor k (record { earlier = inl refl; later = inr there; same = omega (arith, more, few, same); before = omega (arith, more, few, same) }))
      ])
      (λ k there. narrow k (inr there))
      (λ a b repeat. unique a b (record { earlier = inr repeat.earlier; later = inr repeat.later; same = repeat.same; before = repeat.before })),
)

-- the least repeat among sorted factors is the first of the file
pub least_repeat-file : (src_cells dst_cells : ℕ) (factors : List Factor) (sorted : List KeptFactor) → AreFactors src_cells dst_cells factors → IsSortOf factors sorted
    → least_repeat sorted ≡ repeat_behind [] factors
least_repeat-file src_cells dst_cells factors sorted ranged sort =
    IsLeastRepeat-same sorted (kept_from 1 factors) (least_repeat sorted) (repeat_behind [] factors)
    (λ k here. is_in-permutation sorted (kept_from 1 factors) k (IsPermutation-sym (kept_from 1 factors) sorted sort.moved) here)
    (λ k here. is_in-permutation (kept_from 1 factors) sorted k sort.moved here)
    (least_repeat-least 0 sorted (sorted-climbs src_cells dst_cells factors sorted ranged sort))
    (repeat-least factors (λ x here. let factor = ranged.each x here in let cells = ranged.cells in let within = factor.src_within in omega (arith, within, cells)))

-- factors of a file are in range, in whatever order
pub kept-ranged : (src_cells dst_cells : ℕ) (factors : List Factor) (kept : List KeptFactor) → AreFactors src_cells dst_cells factors
    → IsPermutation (kept_from 1 factors) kept → (k : KeptFactor) → IsIn k kept → IsRanged src_cells k
kept-ranged src_cells dst_cells factors kept ranged moved k here =
    let (x, there, is) = sorted-of factors kept k moved here in
    let factor = ranged.each x there in
    let from = factor.src_from in
    let to = factor.src_within in
    let source : k.src ≡ x.src = ap (λ (k : KeptFactor). k.src) is in
    let weight : x.weight ≡ k.weight = sym (ap (λ (k : KeptFactor). k.weight) is) in
    let P : _ → Type 0 = λ w. IsWeight w in
    record {
      from_one = omega (arith, source, from);
      within = omega (arith, source, to);
      weight = subst P weight factor.weight;
    }

-- factors of a file that ascend are sorted
pub kept-sorted : (src_cells dst_cells : ℕ) (factors : List Factor) (kept : List KeptFactor) → AreFactors src_cells dst_cells factors
    → IsPermutation (kept_from 1 factors) kept → Ascends 0 kept → AreSorted src_cells kept
kept-sorted src_cells dst_cells factors kept ranged moved up = record {
  ascend = up;
  ranged = All-from_in (IsRanged src_cells) kept (kept-ranged src_cells dst_cells factors kept ranged moved);
  few = let count = length_permutation (kept_from 1 factors) kept moved in let few = ranged.few in let all = length-kept 1 factors in omega (arith, count, few, all);
}

-- sorted factors without a repeat
pub sorted-ascends : (src_cells dst_cells : ℕ) (factors : List Factor) (sorted : List KeptFactor) → AreFactors src_cells dst_cells factors → IsSortOf factors sorted
    → least_repeat sorted ≡ None → Ascends 0 sorted
sorted-ascends src_cells dst_cells factors sorted ranged sort none =
    let climbs = sorted-climbs src_cells dst_cells factors sorted ranged sort in
    let least = least_repeat-least 0 sorted climbs in
    let cells = ranged.cells in
    let each = kept-ranged src_cells dst_cells factors sorted ranged sort.moved in
    climbs-ascend 0 0 sorted climbs
    (λ k here. let ranged_here = each k here in let from = ranged_here.from_one in omega (arith, from))
    (λ k here. let ranged_here = each k here in let within = ranged_here.within in omega (arith, within, cells))
    (λ a b repeat. let (n, is, less) = least.least_of a b repeat in let both : None ≡ Some n = sym none ∙ is in absurd (cc))

-- factors of a file that ascend in some order have no repeat
pub kept-once : (src_cells dst_cells : ℕ) (factors : List Factor) (kept : List KeptFactor) → AreFactors src_cells dst_cells factors
    → IsPermutation (kept_from 1 factors) kept → Ascends 0 kept → repeat_behind [] factors ≡ None
kept-once src_cells dst_cells factors kept ranged moved up = by (repeat_behind [] factors) refl
  where
    least : IsLeastRepeat (kept_from 1 factors) (repeat_behind [] factors)
    least = repeat-least factors (λ x here. let factor = ranged.each x here in let cells = ranged.cells in let within = factor.src_within in omega (arith, within, cells))

    by : (r : Option ℕ) → repeat_behind [] factors ≡ r → r ≡ None
    by None is = refl
    by (Some n) is =
        let (a, b, repeat, number) = least.found n is in
        let one = Ascends-unique 0 kept a b up (is_in-permutation (kept_from 1 factors) kept a moved repeat.earlier)
        (is_in-permutation (kept_from 1 factors) kept b moved repeat.later) repeat.same in
        let same : a.number ≡ b.number = ap (λ (k : KeptFactor). k.number) one in
        absurd (omega (arith, repeat.before, same))
