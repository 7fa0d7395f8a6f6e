use Rattle.std.proofs.Common.{◌≡◌, ◌-◌, ◌^◌, min, take}
use Rattle.cpl_base.specs.Numerals.{number}
use Rattle.cpl_base.proofs.digits.decimal.Given as goal

abbrev pub invariant-loop-digit : goal.invariant-loop-digit
invariant-loop-digit l = l.number ≡ min (number (take l.digit-index l.digits)) (2 ^ 64 - 1)
