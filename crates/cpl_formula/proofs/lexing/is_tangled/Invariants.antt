use Rattle.std.proofs.Common.{◌≡◌, ◌≤◌, drop}
use Rattle.cpl_formula.specs.Tokens.{is_tangled, is_tangled_from}
use Rattle.cpl_formula.proofs.lexing.is_tangled.Given as goal

abbrev pub invariant-loop-byte : goal.invariant-loop-byte
invariant-loop-byte l = (is_tangled l.text ≡ is_tangled_from l.opened l.row (drop l.byte-index l.text)) × (l.opened ≤ 32) × (l.row ≤ 32)
