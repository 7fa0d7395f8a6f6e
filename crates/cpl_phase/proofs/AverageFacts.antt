-- Averages of what is kept for a block.
use Rattle.std.proofs.Common.{◌≡◌, ◌≢◌, ℕ, ◌-◌, ◌<◌, List, [], ◌∷◌, ℤ, pos, get_or, length, map, refl, sym, ◌∙◌, arith}
use Rattle.std.proofs.lemmas.List.{get_or-map, length-map, same_lists}
use Rattle.std.proofs.lemmas.List.FromFn.{get_or-map-range_with_len, length-map-range_with_len}
use Rattle.std.proofs.lemmas.List.Elements.{All-map}
use Rattle.std.specs.List.{All}
use Rattle.cpl_base.specs.Numbers.{IsValue}
use Rattle.cpl_comp.proofs.HeldFacts.{get_or-within}
use Rattle.std.specs.Prelude.{◌+ℤ◌, slice_index}
use Rattle.cpl_base.specs.Rounding.{near_of}
use Rattle.cpl_block.specs.Frames.{IsOwn, home_of, value_at, values_in}
use Rattle.cpl_block.specs.Laws.{IsFraming}
use Rattle.cpl_block.specs.declared.frame.Frame.{Frame}
use Rattle.cpl_comp.specs.Worlds.{cell_value}
use Rattle.cpl_comp.specs.Writes.{mean_values}
use Rattle.cpl_grid.specs.Owners.{Layout}
use Rattle.cpl_grid.specs.Parts.{cells_of_part}
use Rattle.cpl_mediator.specs.Averages.{RunningSums, average_at, average_of, sum_at}
use Rattle.cpl_phase.specs.Keeping.{StandsForBlock, kept_in, values_of_block}
use Rattle.cpl_phase.proofs.WrittenFacts.{own-over}

-- the sum of what is kept, at a cell of the block by its number in the block
sum-in : (frame : Frame) (kept : List (List ℤ)) (i : ℕ) → i < length (cells_of_part frame.grid frame.part)
    → sum_at (kept_in frame kept) i ≡ sum_at kept (slice_index (cells_of_part frame.grid frame.part) i - 1)
sum-in frame [] i inside = refl
sum-in frame (field ∷ kept) i inside =
    λ k. get_or-map (cell_value field) (cells_of_part frame.grid frame.part) i 0 (pos 0) inside k +ℤ sum-in frame kept i inside k

average-in : (frame : Frame) (kept : List (List ℤ)) (i : ℕ) → i < length (cells_of_part frame.grid frame.part)
    → average_at (kept_in frame kept) i ≡ average_at kept (slice_index (cells_of_part frame.grid frame.part) i - 1)
average-in frame kept i inside =
    λ k. near_of (sum-in frame kept i inside k) (pos (length-map kept (values_of_block frame) k))

-- the averages of the block's cells
pub averages-in : (frame : Frame) (kept : List (List ℤ)) (n : ℕ) → n ≡ length (cells_of_part frame.grid frame.part)
    → average_of n (kept_in frame kept) ≡ map (λ s. average_at kept (s - 1)) (cells_of_part frame.grid frame.part)
averages-in frame kept n is =
    let cells = cells_of_part frame.grid frame.part in
    let value : ℕ → ℤ = λ s. average_at kept (s - 1) in
    let many = length-map-range_with_len (average_at (kept_in frame kept)) 0 n in
    same_lists (average_of n (kept_in frame kept)) (map value cells) (many ∙ is ∙ sym (length-map cells value)) (λ i d inside.
    let below : i < n = rw many at inside in
    let within : i < length cells = omega (arith, below, is) in
    get_or-map-range_with_len (average_at (kept_in frame kept)) 0 n i i d below (omega arith)
    ∙ average-in frame kept i within
    ∙ sym (get_or-map value cells i 0 d within))

-- what nothing is kept of has its own values
pub mean-none : (frame : Frame) (layout : Layout) (running : RunningSums) (values : List ℤ) (kept : List (List ℤ)) (field : List ℤ)
    → running.count ≡ 0 → StandsForBlock frame running kept → IsOwn frame (cell_value values) field
    → IsOwn frame (cell_value (mean_values layout values kept)) field
mean-none frame layout running values [] field none stands own = own
mean-none frame layout running values (first ∷ more) field none stands own = absurd (omega (arith, none, stands.count))

-- what something is kept of has the mean
pub mean-some : (frame : Frame) (layout : Layout) (running : RunningSums) (values : List ℤ) (kept : List (List ℤ)) (field : List ℤ) → IsFraming frame
    → layout.grid ≡ frame.grid → running.count ≢ 0 → StandsForBlock frame running kept
    → values_in frame field ≡ map (λ s. average_at kept (s - 1)) (cells_of_part frame.grid frame.part)
    → IsOwn frame (cell_value (mean_values layout values kept)) field
mean-some frame layout running values [] field laws same some stands is = absurd (some stands.count)
mean-some frame layout running values (first ∷ more) field laws same some stands is =
    own-over frame layout (λ s. average_at (first ∷ more) (s - 1)) field laws same (laws.held (λ s. average_at (first ∷ more) (s - 1)) field is)

-- values of a block are values
pub values_in-within : (frame : Frame) (field : List ℤ) → All IsValue field → All IsValue (values_in frame field)
values_in-within frame field each =
    let cells = cells_of_part frame.grid frame.part in
    All-map IsValue (λ s. value_at field (home_of frame s)) cells (λ k d inside. get_or-within field each (home_of frame (get_or cells k d)))
