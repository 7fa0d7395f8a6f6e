-- What a connector makes of the world: each import takes the image of its export, and its time stamp.
use Rattle.std.specs.Prelude.{ℕ, ℤ, pos, Bool, true, false, List, [], map, filter, fold, slice_index_or, Option, Some, None}
use Rattle.cpl_comp.specs.Worlds.{CompWorld, FieldWorld, cell_value, changed, field_at, over_cells}
use Rattle.cpl_comp.specs.declared.component.Comp.{Comp}
use Rattle.cpl_grid.specs.Owners.{Layout}
use Rattle.cpl_match.specs.declared.port.Pair.{Pair}
use Rattle.cpl_smm.specs.Rows.{Entry, Table, row_at}
use Rattle.cpl_smm.specs.Sums.{image_of}
use Rattle.cpl_script.specs.Couplings.{layout_at}
use Rattle.cpl_script.specs.Operations.{is_init_pair}
use Rattle.cpl_script.specs.declared.link.Link.{Link}

-- The components, in list order.
abbrev pub World : Type 0
World = List CompWorld

-- a component that isn't there
abbrev pub no_comp : CompWorld
no_comp = record { clock = pos 0; runs = 0; fields = [] }

-- the component of a place
abbrev pub comp_at : World → ℕ → CompWorld
comp_at world component = slice_index_or world component no_comp

-- what a row of weights makes of source values: their weighted sum, rounded once; 0 where the row has no entry
abbrev pub weighted_value : (ℕ → ℤ) → List Entry → ℤ
weighted_value value row = image_of row (map (λ entry. value entry.0) row)

-- what a destination cell takes of source values: that of the cell of equal index, or a weighted sum
abbrev pub image_at : Option Table → (ℕ → ℤ) → ℕ → ℤ
image_at None value s = value s
image_at (Some table) value s = weighted_value value (row_at table s)

-- an import with the image of an export, and with its stamp
abbrev pub imported : Option Table → Layout → FieldWorld → FieldWorld → FieldWorld
imported weights layout export field =
    record field { values = over_cells layout (image_at weights (cell_value export.values)); stamp = export.stamp }

-- the world with the import of a pair taken from its export, as that was in the world before
abbrev pub carried : List Comp → Link → World → World → Pair → World
carried comps link before world pair =
    let export = field_at (comp_at before pair.src).fields pair.src_field in
    let taken = changed (imported link.weights (layout_at comps pair.dst) export) pair.dst_field in
    changed (λ comp. record comp { fields = taken comp.fields }) pair.dst world

-- the pairs that an operation of a connector carries: all, or at an initialisation those whose import is taken then
abbrev pub carried_pairs : List Comp → Link → Bool → List Pair
carried_pairs comps link true = filter (is_init_pair comps) link.pairs
carried_pairs comps link false = link.pairs

-- the world after an operation of a connector
abbrev pub world_after_link : List Comp → Link → Bool → World → World
world_after_link comps link at_init world = fold (carried comps link world) world (carried_pairs comps link at_init)
