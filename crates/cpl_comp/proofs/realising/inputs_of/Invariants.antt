use Rattle.std.proofs.Common.{◌≡◌, map, take}
use Rattle.cpl_comp.proofs.realising.inputs_of.Given as goal

-- the numbers so far
abbrev pub invariant-loop-sign : goal.invariant-loop-sign
invariant-loop-sign l = l.inputs.items ≡ map (λ sign. sign.inputs) (take l.sign-index l.signs)
