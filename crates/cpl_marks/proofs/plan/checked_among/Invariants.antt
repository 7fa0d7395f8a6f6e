use Rattle.std.proofs.Common.{◌≡◌, ◌<◌, All, length, take}
use Rattle.std.specs.List.{enumerate_from, filter_map}
use Rattle.cpl_marks.specs.Plans.{checked_import}
use Rattle.cpl_marks.proofs.plan.checked_among.Given as goal

-- those so far
abbrev pub invariant-loop-number : goal.invariant-loop-number
invariant-loop-number l = record {
  value : l.checked.items ≡ filter_map (checked_import l.comp l.phase l.connected) (enumerate_from 0 (take l.number l.imports));
  within : All (λ import. import.field < length l.comp.fields) l.checked.items;
}
