use Rattle.std.proofs.Common.{◌≡◌, map, take}
use Rattle.cpl_dict.specs.Numbers.{number_of}
use Rattle.cpl_match.proofs.marks.numbers_of.Given as goal

-- the numbers so far
abbrev pub invariant-loop-port : goal.invariant-loop-port
invariant-loop-port l = l.numbers.items ≡ map (λ port. number_of l.dict port.standard) (take l.port-index l.ports)
