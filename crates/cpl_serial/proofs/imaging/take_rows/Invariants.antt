use Rattle.std.proofs.Common.{◌≡◌, length}
use Rattle.cpl_serial.specs.Images.{IsImagedTo}
use Rattle.cpl_serial.proofs.imaging.take_rows.Given as goal

-- the cells so far have their images
abbrev pub invariant-loop-k : goal.invariant-loop-k
invariant-loop-k l = IsImagedTo l.k l.table l.source l.initial.image l.image × (length l.gathered ≡ length l.initial.gathered)
