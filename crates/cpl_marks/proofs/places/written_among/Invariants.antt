use Rattle.std.proofs.Common.{◌≡◌, filter, take}
use Rattle.cpl_comp.specs.Components.{written_fields}
use Rattle.cpl_comp.specs.Turns.{is_among}
use Rattle.cpl_marks.proofs.places.written_among.Given as goal

-- those so far that are written
abbrev pub invariant-loop-number : goal.invariant-loop-number
invariant-loop-number l = l.written.items ≡ filter (is_among (written_fields l.phase)) (take l.number l.places)
