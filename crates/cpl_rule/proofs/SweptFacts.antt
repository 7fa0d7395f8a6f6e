-- What a sweep over a block leaves.
use Rattle.std.proofs.Common.{◌≡◌, ℕ, ◌+◌, ◌<◌, ◌≤◌, List, [], ◌∷◌, ◌++◌, ℤ, pos, map, set, length, take, drop, get_or, sym, ap, subst, ◌∙◌, arith}
use Rattle.std.specs.List.{All, range_with_len}
use Rattle.std.proofs.lemmas.List.{get_or-append-add, get_or_append_left, length-append, length-drop, length-take-le, take_more_set}
use Rattle.std.proofs.lemmas.List.Elements.{All-append, All-cons, All-drop, All-nil, All-take}
use Rattle.std.proofs.lemmas.List.FromFn.{get_or-map-range_with_len, length-map-range_with_len, map-range_with_len_more}
use Rattle.cpl_base.specs.Numbers.{IsValue}
use Rattle.cpl_block.specs.Frames.{IsOwn, IsSpot, cell_at, first_of, places_in, span_of, stands_for, step_to, value_at}
use Rattle.cpl_block.specs.Laws.{IsFraming}
use Rattle.cpl_block.specs.declared.frame.Frame.{Frame}
use Rattle.cpl_rule.specs.Swept.{IsSwept}

-- what a sweep leaves is what holds of cells, where its values are those
pub own-swept : (frame : Frame) (value : ℕ → ℤ) (of_cell : ℕ → ℤ) (field : List ℤ) → IsFraming frame → IsSwept frame value field → ((a b : ℕ) → IsSpot frame a b → value (step_to frame a b) ≡ of_cell (cell_at frame a b)) → IsOwn frame of_cell field
own-swept frame value of_cell field laws swept same place within own =
    let spot = laws.own place within own in
    ap (value_at field) spot.is
    ∙ swept.cells spot.a spot.b spot.spot
    ∙ same spot.a spot.b spot.spot
    ∙ ap of_cell (sym (ap (stands_for frame) spot.is ∙ (laws.here spot.a spot.b spot.spot).stands))

module _ (value : ℕ → ℤ) (first span len : ℕ) (old new : List ℤ) (values : new ≡ map value (range_with_len 0 span)) where
  -- how long a sweep is
  long-sweep : length new ≡ span
  long-sweep = ap length values ∙ length-map-range_with_len value 0 span

  -- a list with a sweep in it is as long as before
  length-sweep : first + span ≤ length old → len ≡ span → length (take first old ++ (new ++ drop len (drop first old))) ≡ length old
  length-sweep fits is =
      length-append (take first old) _
      ∙ ap (λ n. length (take first old) + n) (length-append new (drop len (drop first old)))
      ∙ rw (length-take-le first old (omega arith), long-sweep, length-drop len (drop first old), length-drop first old, is) (omega arith)

  -- and has its values
  at-sweep : first + span ≤ length old → (k : ℕ) → k < span → get_or (take first old ++ (new ++ drop len (drop first old))) (first + k) (pos 0) ≡ value k
  at-sweep fits k inside =
      let before : length (take first old) ≡ first = length-take-le first old (omega arith) in
      let there : k < length new = rw long-sweep inside in
      ap (λ n. get_or (take first old ++ (new ++ drop len (drop first old))) (n + k) (pos 0)) (sym before)
      ∙ get_or-append-add (take first old) (new ++ drop len (drop first old)) k (pos 0)
      ∙ get_or_append_left new (drop len (drop first old)) (pos 0) k there
      ∙ ap (λ xs. get_or xs k (pos 0)) values
      ∙ get_or-map-range_with_len value 0 span k k (pos 0) inside (omega arith)

-- as many places as a run has
run-count : (first span len : ℕ) (old : List ℤ) → first + span ≤ length old → len ≡ span → length (take len (drop first old)) ≡ span
run-count first span len old fits is =
    length-take-le len (drop first old) (rw (length-drop first old, is) (omega arith)) ∙ is

-- a sweep over the block, put into a field
pub swept-block : (frame : Frame) (value : ℕ → ℤ) (first span len : ℕ) (old new : List ℤ) → IsFraming frame → first ≡ first_of frame (pos 0) (pos 0) → span ≡ span_of frame → len ≡ span → length old ≡ places_in frame → All IsValue old → All IsValue new → new ≡ map value (range_with_len 0 (length (take len (drop first old)))) → IsSwept frame value (take first old ++ (new ++ drop len (drop first old)))
swept-block frame value first span len old new laws first_is span_is len_is long old_values new_values made =
    let end = laws.ends (pos 0) (pos 0) (record { across = omega arith; down = omega arith }) in
    let fits : first + span ≤ length old = rw (first_is, span_is, long) end in
    let values : new ≡ map value (range_with_len 0 span) = made ∙ ap (λ n. map value (range_with_len 0 n)) (run-count first span len old fits len_is) in
    record {
      places = length-sweep value first span len old new values fits len_is ∙ long;
      values = All-append IsValue (take first old) _ (All-take IsValue first old old_values) (All-append IsValue new _ new_values (All-drop IsValue len _ (All-drop IsValue first old old_values)));
      cells = λ a b spot.
          let inside : step_to frame a b < span = rw span_is (laws.steps a b spot) in
          ap (λ n. value_at (take first old ++ (new ++ drop len (drop first old))) (n + step_to frame a b)) (sym first_is)
          ∙ at-sweep value first span len old new values fits (step_to frame a b) inside;
    }

-- one cell of a run more
pub ran-more : (value : ℕ → ℤ) (n : ℕ) (these : List ℤ) (v : ℤ) → n < length these → take n these ≡ map value (range_with_len 0 n) → v ≡ value n → take (n + 1) (set these n v) ≡ map value (range_with_len 0 (n + 1))
ran-more value n these v inside before is =
    take_more_set these n v inside
    ∙ (λ i. before i ++ is i ∷ [])
    ∙ sym (map-range_with_len_more value 0 n n (omega arith))

-- and a value
pub within-more : (n : ℕ) (these : List ℤ) (v : ℤ) → n < length these → All IsValue (take n these) → IsValue v → All IsValue (take (n + 1) (set these n v))
within-more n these v inside before is =
    let P : List ℤ → Type 0 = All IsValue in
    subst P (sym (take_more_set these n v inside)) (All-append IsValue (take n these) (v ∷ []) before (All-cons IsValue v [] is (All-nil IsValue)))
