-- The code's own: what a sequence keeps beside its parts.
use Rattle.std.specs.Prelude.{◌≡◌}
use Rattle.cpl_sequence.specs.Marks.{marks_of_tops}
use Rattle.cpl_sequence.specs.Sequence.{Sequence}
use Rattle.cpl_sequence.specs.Sound.{IsSound}
use Rattle.cpl_sequence.specs.declared.marks.Marks.{Marks}

-- A sound sequence with the marks of its loops.
pub record IsKept (seq : Sequence) (kept : Marks) : Type 0 where
  pub sound : IsSound seq
  pub marks_are : kept ≡ marks_of_tops seq.loops
