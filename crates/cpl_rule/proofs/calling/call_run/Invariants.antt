use Rattle.std.proofs.Common.{◌≡◌, length, take, map}
use Rattle.std.specs.List.{All, range_with_len}
use Rattle.cpl_base.specs.Numbers.{IsValue}
use Rattle.cpl_comp.specs.Readings.{entry_answer}
use Rattle.cpl_entry.specs.Books.{entries_of}
use Rattle.cpl_sweep.specs.Places.{inputs_at}
use Rattle.cpl_rule.specs.Assigned.{answers_of}
use Rattle.cpl_rule.proofs.calling.call_run.Given as goal

-- the answers at the cells passed
abbrev pub invariant-loop-cell : goal.invariant-loop-cell
invariant-loop-cell g l = record {
  inputs : length l.inputs ≡ length l.places;
  values : take l.cell l.these ≡ map (λ cell. entry_answer (answers_of (entries_of l.book)) l.entry (inputs_at l.places l.fields cell)) (range_with_len 0 l.cell);
  within : All IsValue (take l.cell l.these);
}
