-- The end of a field over a block that is the whole grid, by the values that the world has.
use Rattle.std.proofs.Common.{◌≡◌, List, [], ◌∷◌, ℤ, Option, pos, fold, map, ◌+ℤ◌, refl, sym, ap, ◌∙◌}
use Rattle.std.proofs.Math.IntN.{+ℤ_assoc, +ℤ_idl, +ℤ_idr}
use Rattle.cpl_block.specs.Frames.{values_in}
use Rattle.cpl_block.specs.Laws.{IsAlone}
use Rattle.cpl_block.specs.Totals.{total_of}
use Rattle.cpl_block.specs.Totals as block
use Rattle.cpl_block.specs.declared.frame.Frame.{Frame}
use Rattle.cpl_comp.specs.Worlds.{FieldWorld, active_cells, cell_value}
use Rattle.cpl_grid.specs.Grid.{indices}
use Rattle.cpl_grid.specs.Owners.{Layout}
use Rattle.cpl_script.specs.SerialRun.{active_values, field_end, greatest_of, least_of, sum_of}
use Rattle.cpl_script.specs.declared.outcome.FieldEnd.{FieldEnd}
use Rattle.cpl_serial.specs.Whole.{HoldsWorld}

-- ---- sums, the least, the greatest

-- a sum from the left on, behind a number
total-behind : (z : ℤ) (xs : List ℤ) → fold ◌+ℤ◌ z xs ≡ z +ℤ sum_of xs
total-behind z [] = sym (+ℤ_idr z)
total-behind z (x ∷ xs) = total-behind (z +ℤ x) xs ∙ +ℤ_assoc z x (sum_of xs)

-- a sum from the left on is one from the right on
total-sum : (xs : List ℤ) → total_of xs ≡ sum_of xs
total-sum xs = total-behind (pos 0) xs ∙ +ℤ_idl (sum_of xs)

-- a block's least value is the least of its values
least-same : (xs : List ℤ) → block.least_of xs ≡ least_of xs
least-same [] = refl
least-same (x ∷ xs) = refl

-- a block's greatest value is the greatest of its values
greatest-same : (xs : List ℤ) → block.greatest_of xs ≡ greatest_of xs
greatest-same [] = refl
greatest-same (x ∷ xs) = refl

-- ---- the whole grid

-- the values of a block that is the whole grid are those of the cells that take part
values-active : (frame : Frame) (field : List ℤ) (layout : Layout) (world : FieldWorld) → IsAlone frame → layout.grid ≡ frame.grid → HoldsWorld frame field world → values_in frame field ≡ active_values layout world.values
unfolding active_cells
values-active frame field layout world alone same holds =
    holds ∙ ap (map (cell_value world.values)) (alone.cells ∙ ap indices (sym same))

-- a sum over such a block
pub sum-active : (frame : Frame) (field : List ℤ) (layout : Layout) (world : FieldWorld) (sum : ℤ) → IsAlone frame → layout.grid ≡ frame.grid → HoldsWorld frame field world → sum ≡ total_of (values_in frame field) → sum ≡ sum_of (active_values layout world.values)
sum-active frame field layout world sum alone same holds is =
    is ∙ total-sum (values_in frame field) ∙ ap sum_of (values-active frame field layout world alone same holds)

-- the least over such a block
least-active : (frame : Frame) (field : List ℤ) (layout : Layout) (world : FieldWorld) (low : ℤ) → IsAlone frame → layout.grid ≡ frame.grid → HoldsWorld frame field world → low ≡ block.least_of (values_in frame field) → low ≡ least_of (active_values layout world.values)
least-active frame field layout world low alone same holds is =
    is ∙ least-same (values_in frame field) ∙ ap least_of (values-active frame field layout world alone same holds)

-- the greatest over such a block
greatest-active : (frame : Frame) (field : List ℤ) (layout : Layout) (world : FieldWorld) (high : ℤ) → IsAlone frame → layout.grid ≡ frame.grid → HoldsWorld frame field world → high ≡ block.greatest_of (values_in frame field) → high ≡ greatest_of (active_values layout world.values)
greatest-active frame field layout world high alone same holds is =
    is ∙ greatest-same (values_in frame field) ∙ ap greatest_of (values-active frame field layout world alone same holds)

-- an end of these parts
abbrev pub end_with : Option ℤ → (low high sum : ℤ) → FieldEnd
end_with stamp low high sum = record { stamp = stamp; low = low; high = high; sum = sum }

-- the end of a field over such a block
pub end-active : (frame : Frame) (field : List ℤ) (layout : Layout) (world : FieldWorld) (stamp : Option ℤ) (low high sum : ℤ) → IsAlone frame → layout.grid ≡ frame.grid → world.stamp ≡ stamp → HoldsWorld frame field world → low ≡ block.least_of (values_in frame field) → high ≡ block.greatest_of (values_in frame field) → sum ≡ total_of (values_in frame field) → end_with stamp low high sum ≡ field_end layout world
end-active frame field layout world stamp low high sum alone same stamped holds low_is high_is sum_is =
    let lows = least-active frame field layout world low alone same holds low_is in
    let highs = greatest-active frame field layout world high alone same holds high_is in
    let sums = sum-active frame field layout world sum alone same holds sum_is in
    λ i. record { stamp = sym stamped i; low = lows i; high = highs i; sum = sums i }
