use Rattle.std.proofs.Common.{◌≡◌, take}
use Rattle.cpl_comp.specs.Realised.{start_rules}
use Rattle.cpl_comp.specs.Views.{rules_in}
use Rattle.cpl_comp.proofs.starts.start_halo.Given as goal

-- the rules so far
abbrev pub invariant-loop-field : goal.invariant-loop-field
invariant-loop-field l = rules_in l.rules.items ≡ start_rules (take l.field-index l.fields)
