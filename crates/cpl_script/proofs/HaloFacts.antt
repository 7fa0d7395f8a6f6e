-- What rules read beside the cell is near.
use Rattle.std.proofs.Common.{ℕ, List, subst, sym, rules}
use Rattle.std.specs.List.{list_any}
use Rattle.std.proofs.lemmas.List.Elements.{All-filter, All-from_recursion}
use Rattle.cpl_comp.specs.Components.{IsComponent, Limits}
use Rattle.cpl_comp.specs.Halos.{halo_of, has_read, is_read_at, near_offsets}
use Rattle.cpl_comp.specs.declared.component.Comp.{Comp}
use Rattle.cpl_comp.specs.declared.component.Halo.{Halo}
use Rattle.cpl_comp.specs.declared.component.Rule.{Rule}
use Rattle.cpl_grid.specs.Grid.{IsOffset}
use Rattle.cpl_route.specs.Routes.{AreOffsets}
use Rattle.cpl_script.specs.Kept.{HasNearHalos}

-- the offsets that may be read
near-offsets : AreOffsets near_offsets
near-offsets = All-from_recursion (λ offset. IsOffset offset.0 × IsOffset offset.1) near_offsets (search rules)

-- the offsets of a halo are some of them
halo-near : (count : ℕ) (of : List Rule) → AreOffsets (halo_of count of).offsets
unfolding halo_of
halo-near count of = All-filter (λ offset. list_any (has_read (is_read_at offset)) of) (λ offset. IsOffset offset.0 × IsOffset offset.1) near_offsets near-offsets

-- so are those of a component
pub halos-near : (limits : Limits) (comp : Comp) → IsComponent limits comp → HasNearHalos comp
halos-near limits comp is =
    let Near : Halo → Type 0 = λ halo. AreOffsets halo.offsets in
    record {
      start = subst Near (sym is.start_halo) (halo-near _ _);
      phases = λ k d inside. subst Near (sym (is.phases k d inside).halo) (halo-near _ _);
    }
