-- What the averages and the ranges of a phase find amiss over a block.
use Rattle.std.specs.Prelude.{ℕ, ◌+◌, ◌-◌, ◌*◌, nat_lt, ℤ, List}
use Rattle.std.specs.List.{enumerate_from, flat_map}
use Rattle.cpl_block.specs.Frames.{home_of, value_at}
use Rattle.cpl_block.specs.declared.frame.Frame.{Frame}
use Rattle.cpl_comp.specs.RunFaults.{Fault, is_in_range, unless}
use Rattle.cpl_comp.specs.declared.component.RangeRow.{RangeRow}
use Rattle.cpl_comp.specs.declared.found.FoundKind.TheVariants.{Average, Range}
use Rattle.cpl_grid.specs.Parts.{cells_of_part}
use Rattle.cpl_mediator.specs.Averages.{RunningSums}
use Rattle.cpl_sweep.specs.Places.{field_at}
use Rattle.cpl_phase.specs.Kept.{accum_at}

-- running sums of no field, which have no average
abbrev pub accum_fault : List RunningSums → ℕ × ℕ → List Fault
accum_fault accums numbered = unless (nat_lt 0 (accum_at accums numbered.1).count) (65 + numbered.0) (Average numbered.1)

-- those of the fields of these places
abbrev pub accum_faults : List RunningSums → List ℕ → List Fault
accum_faults accums places = flat_map (accum_fault accums) (enumerate_from 0 places)

-- a value of a cell outside its range
abbrev pub value_fault : ℕ → ℤ → ℕ × RangeRow → List Fault
value_fault s value numbered =
    unless (is_in_range numbered.1 value) (129 + (s - 1) * 8 + numbered.0) (Range numbered.1.field s value numbered.1.low numbered.1.high)

-- the faults at a cell, whose values stand at a place
abbrev pub place_faults : List (List ℤ) → List RangeRow → ℕ → ℕ → List Fault
place_faults fields rows place s =
    flat_map (λ numbered. value_fault s (value_at (field_at fields numbered.1.field) place) numbered) (enumerate_from 0 rows)

-- the faults at all cells of a block
abbrev pub block_faults : Frame → List (List ℤ) → List RangeRow → List Fault
block_faults frame fields rows = flat_map (λ s. place_faults fields rows (home_of frame s) s) (cells_of_part frame.grid frame.part)
