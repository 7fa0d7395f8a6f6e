use Rattle.std.proofs.Common.{◌≡◌, ◌++◌, map, take}
use Rattle.cpl_comp.specs.Views.{rules_in}
use Rattle.cpl_comp.proofs.phases.push_rules.Given as goal

-- the rules so far
abbrev pub invariant-loop-row : goal.invariant-loop-row
invariant-loop-row l = rules_in l.rules.items ≡ rules_in l.initial.rules.items ++ map (λ row. row.rule) (take l.row-index l.rows)
