use Rattle.std.proofs.Common.{◌≡◌, ℕ, Some, false, length, take}
use Rattle.std.specs.List.{list_any, slice_get}
use Rattle.std.specs.Prelude.{slice_index_or}
use Rattle.cpl_comp.specs.declared.component.Comp.{Comp}
use Rattle.cpl_serial.specs.Opened.{is_fed_by}
use Rattle.cpl_serial.proofs.opening.connected_of.Given as goal

-- what the connectors passed feed is marked
abbrev pub invariant-loop-line : goal.invariant-loop-line
invariant-loop-line l = record {
  count : (comp : Comp) → slice_get l.system.comps l.component ≡ Some comp → length l.flags.items ≡ length comp.fields;
  marked : (k : ℕ) → slice_index_or l.flags.items k false
      ≡ list_any (is_fed_by l.component k) (take l.line-index l.system.links);
}
