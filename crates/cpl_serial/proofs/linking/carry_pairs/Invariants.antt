use Rattle.cpl_serial.specs.Engines.{HaveRoomFor}
use Rattle.cpl_serial.specs.Linked.{IsLinked}
use Rattle.cpl_serial.proofs.linking.carry_pairs.Given as goal

-- the pairs passed are carried
abbrev pub invariant-loop-j : goal.invariant-loop-j
invariant-loop-j l = IsLinked l.system l.line l.at_init l.j l.initial.locals l.locals × HaveRoomFor l.system l.buffers
