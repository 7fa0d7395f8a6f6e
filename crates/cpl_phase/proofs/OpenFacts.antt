-- What a component on a block holds as it is made.
use Rattle.std.proofs.Common.{◌≡◌, ℕ, zero, suc, ◌+◌, ◌-◌, ◌<◌, ◌≤◌, Bool, true, ◌||◌, ◌==◌, List, [], ◌∷◌, ◌++◌, ℤ, pos, get_or, length, map, replicate, take, Some, refl, sym, ap, subst, ◌∙◌, inl, inr, arith, add-one}
use Rattle.std.proofs.lemmas.Bool.{cases_lt}
use Rattle.std.proofs.lemmas.List.{get_or-replicate, get_or_append_left, length-append, length-map, length-replicate, take_more}
use Rattle.std.proofs.lemmas.List.Elements.{All-map, All-push, All-replicate, All-weaker}
use Rattle.std.proofs.lemmas.List.FromFn.{get_or-map-range_with_len, length-map-range_with_len}
use Rattle.std.proofs.lemmas.List.{map-append}
use Rattle.std.proofs.lemmas.Option.{get_or_from_slice_get, slice_get_read, slice_get_within}
use Rattle.std.proofs.Math.Seq.{get_or-append_seam}
use Rattle.std.specs.List.{All, list_any, range_with_len, slice_get}
use Rattle.cpl_base.specs.Numbers.{IsValue}
use Rattle.cpl_block.specs.Frames.{IsOwn, home_of, places_in, value_at, values_in}
use Rattle.cpl_block.specs.declared.frame.Frame.{Frame}
use Rattle.cpl_comp.specs.Readings.{whole}
use Rattle.cpl_comp.specs.Turns.{is_among}
use Rattle.cpl_comp.specs.Worlds.{FieldWorld, cell_value, field_at as world_at, first_comp, first_field, over_cells}
use Rattle.cpl_comp.specs.declared.component.Comp.{Comp}
use Rattle.cpl_comp.specs.declared.component.Field.{Field}
use Rattle.cpl_comp.specs.declared.component.Phase.{Phase}
use Rattle.cpl_comp.specs.declared.component.SetRow.{SetRow}
use Rattle.cpl_grid.proofs.RangeFacts.{range-suc}
use Rattle.cpl_grid.specs.Grid.{column_of, indices, row_of}
use Rattle.cpl_grid.specs.Owners.{Layout}
use Rattle.cpl_grid.specs.Parts.{cells_of_part}
use Rattle.cpl_marks.specs.Plans.{IsPlanOf, IsPlanWithin}
use Rattle.cpl_marks.specs.declared.plan.StampPlan.{StampPlan}
use Rattle.cpl_mediator.specs.Averages.{RunningSums, StandsFor, no_sums, sum_at}
use Rattle.cpl_rule.specs.Numbered.{IsNumbered}
use Rattle.cpl_sweep.specs.Places.{field_at}
use Rattle.cpl_phase.specs.Keeping.{IsAccumOf, StandsForBlock}
use Rattle.cpl_phase.specs.Kept.{AreAccums, StandForKept, accum_at}
use Rattle.cpl_phase.specs.Locals.{ArePlans}
use Rattle.cpl_phase.specs.Opened.{AreFirstFields, ArePlansTo, first_accums, sums_held}
use Rattle.cpl_phase.specs.Rooms.{cell_count, further_fields, is_kept_by, keeps_for}
use Rattle.cpl_phase.specs.Worlds.{HoldFields, block_values}

-- ---- what is kept

-- whether what is made of some member passes a test
list_any-map : {A B : Type 0} (test : B → Bool) (f : A → B) (xs : List A) → list_any test (map f xs) ≡ list_any (λ x. test (f x)) xs
list_any-map test f [] = refl
list_any-map test f (x ∷ xs) = ap (λ b. test (f x) || b) (list_any-map test f xs)

-- whether some row keeps a field, or it is averaged
pub keeps-rows : (phase : Phase) (k : ℕ) → (list_any (λ row. row.field == k) phase.adds || is_among phase.averages k) ≡ keeps_for k phase
keeps-rows phase k = ap (λ b. b || is_among phase.averages k) (sym (list_any-map (λ j. j == k) (λ (row : SetRow). row.field) phase.adds))

-- ---- further fields

-- the phases so far and one more
pub further-more : (phases : List Phase) (p most new : ℕ) (phase : Phase) → p < length phases → phase ≡ get_or phases p phase
    → most ≤ new → further_fields phase ≤ new
    → All (λ phase. further_fields phase ≤ most) (take p phases) → All (λ phase. further_fields phase ≤ new) (take (p + 1) phases)
further-more phases p most new phase there is wider fits before =
    let One : Phase → Type 0 = λ x. further_fields x ≤ new in
    let P : List Phase → Type 0 = All One in
    let old : P (take p phases) = All-weaker (λ x. further_fields x ≤ most) One (λ x small. omega (arith, small, wider)) (take p phases) before in
    subst P (sym (take_more phases p phase there)) (All-push One (take p phases) (get_or phases p phase) old (subst One is fits))

-- ---- lists that are made one by one

-- what a function makes of one number more
map-more : {A : Type 0} (f : ℕ → A) (n : ℕ) → map f (range_with_len 0 n) ++ f n ∷ [] ≡ map f (range_with_len 0 (n + 1))
map-more f n =
    let from_zero : n ≡ 0 + n = omega arith in
    ap (λ k. map f (range_with_len 0 n) ++ f k ∷ []) from_zero
    ∙ sym (map-append f (range_with_len 0 n) ((0 + n) ∷ []))
    ∙ ap (map f) (sym (range-suc 0 n))
    ∙ ap (λ k. map f (range_with_len 0 k)) (sym (add-one n))

module _ (comp : Comp) (connected : List Bool) where
  -- the plan of one phase more
  pub plans-more : (p : ℕ) (plans : List StampPlan) (phase : Phase) (plan : StampPlan) → slice_get comp.phases p ≡ Some phase
      → IsPlanOf comp phase connected plan → IsPlanWithin (length comp.fields) plan
      → ArePlansTo comp connected p plans → ArePlansTo comp connected (p + 1) (plans ++ plan ∷ [])
  plans-more p plans phase plan at is within before =
      let longer = length-append plans (plan ∷ []) in
      record {
        number = omega (arith, longer, before.number);
        each = λ q other made there stands.
            let inside = slice_get_within (plans ++ plan ∷ []) q made stands in
            let here : get_or (plans ++ plan ∷ []) q made ≡ made = get_or_from_slice_get (plans ++ plan ∷ []) q made made stands in
            elim (cases_lt q p) [
              | inl less ↦
                  let among : q < length plans = omega (arith, less, before.number) in
                  before.each q other made there (slice_get_read plans (length plans) q made refl among
                  (sym here ∙ get_or_append_left plans (plan ∷ []) made q among))
              | inr more ↦
                  let last : q ≡ length plans = omega (arith, more, inside, longer, before.number) in
                  let same : q ≡ p = omega (arith, last, before.number) in
                  let made_is : plan ≡ made =
                  sym (get_or-append_seam plans plan [] made) ∙ ap (λ n. get_or (plans ++ plan ∷ []) n made) (sym last) ∙ here in
                  let phase_is : phase ≡ other =
                  sym (get_or_from_slice_get comp.phases p phase other at) ∙ ap (λ n. get_or comp.phases n other) (sym same)
                  ∙ get_or_from_slice_get comp.phases q other other there in
                  let P : StampPlan → Type 0 = λ x. IsPlanOf comp other connected x in
                  let Q : Phase → Type 0 = λ x. IsPlanOf comp x connected plan in
                  subst P made_is (subst Q phase_is is)
            ];
        within = All-push (IsPlanWithin (length comp.fields)) plans plan before.within within;
      }

  -- the plans of all phases
  pub plans-all : (p : ℕ) (plans : List StampPlan) → p ≡ length comp.phases → ArePlansTo comp connected p plans → ArePlans comp connected plans
  plans-all p plans all are = record { number = are.number ∙ all; each = are.each; within = are.within }

  -- no plan yet
  pub plans-none : ArePlansTo comp connected 0 []
  plans-none = record {
    number = refl;
    each = λ p phase plan at stands.
        let inside = slice_get_within [] p plan stands in
        absurd (omega (arith, inside));
    within = λ k d below. absurd (omega arith);
  }

-- ---- fields

-- 0 is a value
zero-within : IsValue (pos 0)
zero-within = omega arith

-- the last field of a list
at-end : (xs : List (List ℤ)) (x : List ℤ) (n : ℕ) → length xs ≡ n → field_at (xs ++ x ∷ []) n ≡ x
at-end xs x n same = ap (λ k. get_or (xs ++ x ∷ []) k []) (sym same) ∙ get_or-append_seam xs x [] []

-- one before it
at-before : (xs : List (List ℤ)) (x : List ℤ) (n : ℕ) → n < length xs → field_at (xs ++ x ∷ []) n ≡ field_at xs n
at-before xs x n below = get_or_append_left xs (x ∷ []) [] n below

-- fields of zeros, and the numbers of the cells behind them
pub first-fields : (frame : Frame) (count : ℕ) (columns rows cells : List ℤ)
    → IsNumbered frame (λ s. whole (pos (column_of frame.grid s))) columns → IsNumbered frame (λ s. whole (pos (row_of frame.grid s))) rows
    → IsNumbered frame (λ s. whole (pos s)) cells
    → AreFirstFields frame count (((replicate count (replicate (places_in frame) (pos 0)) ++ columns ∷ []) ++ rows ∷ []) ++ cells ∷ [])
first-fields frame count columns rows cells in_columns in_rows in_cells =
    let zeros = replicate (places_in frame) (pos 0) in
    let base = replicate count zeros in
    let one = base ++ columns ∷ [] in
    let two = one ++ rows ∷ [] in
    let all = two ++ cells ∷ [] in
    let Long : List ℤ → Type 0 = λ field. length field ≡ places_in frame in
    let Valued : List ℤ → Type 0 = All IsValue in
    let long : All Long base = All-replicate Long count zeros (length-replicate (places_in frame) (pos 0)) in
    let valued : All Valued base = All-replicate Valued count zeros (All-replicate IsValue (places_in frame) (pos 0) zero-within) in
    let length_0 : length base ≡ count = length-replicate count zeros in
    let length_1 : length one ≡ count + 1 = length-append base (columns ∷ []) ∙ ap (λ n. n + 1) length_0 in
    let length_2 : length two ≡ count + 2 = length-append one (rows ∷ []) ∙ ap (λ n. n + 1) length_1 ∙ omega arith in
    let length_3 : length all ≡ count + 3 = length-append two (cells ∷ []) ∙ ap (λ n. n + 1) length_2 ∙ omega arith in
    let own_columns : IsOwn frame (λ s. whole (pos (column_of frame.grid s))) columns = λ place below own. in_columns.ringed place below in
    let own_rows : IsOwn frame (λ s. whole (pos (row_of frame.grid s))) rows = λ place below own. in_rows.ringed place below in
    let own_cells : IsOwn frame (λ s. whole (pos s)) cells = λ place below own. in_cells.ringed place below in
    let at_columns : field_at all count ≡ columns =
    at-before two cells count (omega (arith, length_2)) ∙ at-before one rows count (omega (arith, length_1)) ∙ at-end base columns count length_0 in
    let at_rows : field_at all (count + 1) ≡ rows =
    at-before two cells (count + 1) (omega (arith, length_2)) ∙ at-end one rows (count + 1) length_1 in
    let at_cells : field_at all (count + 2) ≡ cells = at-end two cells (count + 2) length_2 in
    record {
      are = record {
        number = length_3;
        places = All-push Long two cells (All-push Long one rows (All-push Long base columns long in_columns.places) in_rows.places) in_cells.places;
        values = All-push Valued two cells
            (All-push Valued one rows (All-push Valued base columns valued in_columns.values) in_rows.values) in_cells.values;
      };
      numbers = record {
        columns = subst (IsOwn frame (λ s. whole (pos (column_of frame.grid s)))) (sym at_columns) own_columns;
        rows = subst (IsOwn frame (λ s. whole (pos (row_of frame.grid s)))) (sym at_rows) own_rows;
        cells = subst (IsOwn frame (λ s. whole (pos s))) (sym at_cells) own_cells;
      };
      zeros = λ k below.
          at-before two cells k (omega (arith, length_2, below)) ∙ at-before one rows k (omega (arith, length_1, below))
          ∙ at-before base columns k (omega (arith, length_0, below)) ∙ get_or-replicate count k zeros [] below;
    }

-- ---- the world at the start

-- a number in a list of zeros, or behind it
zero-at : (n i : ℕ) → get_or (replicate n (pos 0)) i (pos 0) ≡ pos 0
zero-at zero i = refl
zero-at (suc n) zero = refl
zero-at (suc n) (suc i) = zero-at n i

-- a number in a list of zeros for cells, or behind it
zero-of : (cells : List ℕ) (i : ℕ) → get_or (map (λ s. pos 0) cells) i (pos 0) ≡ pos 0
zero-of [] i = refl
zero-of (s ∷ cells) zero = refl
zero-of (s ∷ cells) (suc i) = zero-of cells i

-- what is 0 everywhere
map-zeros : (f : ℕ → ℤ) (cells : List ℕ) → ((s : ℕ) → f s ≡ pos 0) → map f cells ≡ replicate (length cells) (pos 0)
map-zeros f [] each = refl
map-zeros f (s ∷ cells) each = λ i. each s i ∷ map-zeros f cells each i

-- each field of a component at the start
first-at : (layout : Layout) (fields : List Field) (k : ℕ) → k < length fields
    → world_at (map (λ field. first_field layout) fields) k ≡ first_field layout
first-at layout [] k below = absurd (omega arith)
first-at layout (x ∷ xs) zero below = refl
first-at layout (x ∷ xs) (suc k) below = first-at layout xs k (omega arith)

-- its value at a cell
first-value : (layout : Layout) (s : ℕ) → cell_value (over_cells layout (λ s. pos 0)) s ≡ pos 0
unfolding over_cells
first-value layout s = zero-of (indices layout.grid) (s - 1)

-- its values at the cells of a block
pub first-values : (frame : Frame) (comp : Comp) (k : ℕ) → k < length comp.fields
    → block_values frame (world_at (first_comp comp).fields k) ≡ replicate (cell_count frame) (pos 0)
first-values frame comp k below =
    ap (block_values frame) (first-at comp.decomp comp.fields k below)
    ∙ map-zeros (cell_value (over_cells comp.decomp (λ s. pos 0))) (cells_of_part frame.grid frame.part) (first-value comp.decomp)

-- the fields of the block hold the values of the world
pub first-hold : (frame : Frame) (comp : Comp) (fields : List (List ℤ)) → AreFirstFields frame (length comp.fields) fields
    → HoldFields frame (length comp.fields) (first_comp comp).fields fields
first-hold frame comp fields are = record {
  number = length-map comp.fields (λ field. first_field comp.decomp);
  values = λ k below.
      ap (values_in frame) (are.zeros k below)
      ∙ map-zeros (λ s. value_at (replicate (places_in frame) (pos 0)) (home_of frame s)) (cells_of_part frame.grid frame.part)
      (λ s. zero-at (places_in frame) (home_of frame s))
      ∙ sym (first-values frame comp k below);
}

-- what is shown of it
pub first-shown : (frame : Frame) (comp : Comp) (shown : List (List ℤ))
    → shown ≡ replicate (length comp.fields) (replicate (cell_count frame) (pos 0))
    → (k : ℕ) → k < length comp.fields → field_at shown k ≡ block_values frame (world_at (first_comp comp).fields k)
first-shown frame comp shown is k below =
    ap (λ xs. field_at xs k) is
    ∙ get_or-replicate (length comp.fields) k (replicate (cell_count frame) (pos 0)) [] below
    ∙ sym (first-values frame comp k below)

-- ---- sums of nothing

-- a list of zeros, made by places
zeros-by : (a n : ℕ) → replicate n (pos 0) ≡ map (sum_at []) (range_with_len a n)
zeros-by a zero = refl
zeros-by a (suc n) = ap (λ xs. pos 0 ∷ xs) (zeros-by (a + 1) n)

-- they stand for no field
none-stands : (cells : ℕ) → StandsFor (no_sums cells) []
none-stands cells = record {
  count = refl;
  cells = λ k d below. absurd (omega arith);
  sums = zeros-by 0 cells ∙ ap (λ n. map (sum_at []) (range_with_len 0 n)) (sym (length-replicate cells (pos 0)));
}

-- so they are running sums
none-accum : (cells n : ℕ) → IsAccumOf cells (no_sums n)
none-accum cells n = record {
  kept = [];
  stands = none-stands n;
  values = λ k d below. absurd (omega arith);
  sums = λ some. absurd (some refl);
}

module _ (comp : Comp) (cells : ℕ) where
  -- those of one field more
  pub accums-more : (k n : ℕ) (old new : List RunningSums) (one : RunningSums) → new ≡ old ++ one ∷ [] → one ≡ no_sums n → n ≡ sums_held comp cells k
      → old ≡ map (λ j. no_sums (sums_held comp cells j)) (range_with_len 0 k)
      → new ≡ map (λ j. no_sums (sums_held comp cells j)) (range_with_len 0 (k + 1))
  accums-more k n old new one pushed is held before =
      let made : one ≡ no_sums (sums_held comp cells k) = is ∙ ap no_sums held in
      pushed ∙ (λ i. before i ++ made i ∷ []) ∙ map-more (λ j. no_sums (sums_held comp cells j)) k

  -- the sums of the field of a place
  first-accum : (k : ℕ) → k < length comp.fields → accum_at (first_accums comp cells) k ≡ no_sums (sums_held comp cells k)
  first-accum k below = get_or-map-range_with_len (λ k. no_sums (sums_held comp cells k)) 0 (length comp.fields) k k (no_sums 0) below (omega arith)

  -- those of all fields
  pub first-accums : AreAccums cells (length comp.fields) (first_accums comp cells)
  first-accums = record {
    number = length-map-range_with_len (λ k. no_sums (sums_held comp cells k)) 0 (length comp.fields);
    each = All-map (IsAccumOf cells) (λ k. no_sums (sums_held comp cells k)) (range_with_len 0 (length comp.fields))
        (λ i d below. none-accum cells (sums_held comp cells (get_or (range_with_len 0 (length comp.fields)) i d)));
  }

  -- a field that is kept has a sum for each cell
  pub first-sums : (k : ℕ) → k < length comp.fields → is_kept_by comp k ≡ true → length (accum_at (first_accums comp cells) k).sums ≡ cells
  first-sums k below kept =
      let held : sums_held comp cells k ≡ cells = rw kept refl in
      ap (λ (a : RunningSums). length a.sums) (first-accum k below) ∙ length-replicate (sums_held comp cells k) (pos 0) ∙ held

  -- nothing is kept
  pub first-kept : (frame : Frame) → StandForKept frame (length comp.fields) (first_comp comp).fields (first_accums comp cells)
  first-kept frame = record {
    number = length-map comp.fields (λ field. first_field comp.decomp);
    each = λ k below.
        let P : FieldWorld → Type 0 = λ field. StandsForBlock frame (accum_at (first_accums comp cells) k) field.kept in
        let Q : RunningSums → Type 0 = λ a. StandsFor a [] in
        subst P (sym (first-at comp.decomp comp.fields k below)) (subst Q (sym (first-accum k below)) (none-stands (sums_held comp cells k)));
  }

  -- no value was kept for any field
  pub first-aged : All (λ accum. accum.count ≤ 0) (first_accums comp cells)
  first-aged =
      All-map (λ accum. accum.count ≤ 0) (λ k. no_sums (sums_held comp cells k)) (range_with_len 0 (length comp.fields)) (λ i d below. omega arith)
