-- What matching and the run sequence are given of components: their ports, their cells, their names; and the ways
-- between them.
use Rattle.std.specs.Prelude.{ℕ, Bool, true, false, List, map, Option, Some, None}
use Rattle.std.specs.List.{enumerate_from, filter_map, flat_map}
use Rattle.cpl_comp.specs.declared.component.Comp.{Comp}
use Rattle.cpl_comp.specs.declared.component.Field.{Field}
use Rattle.cpl_comp.specs.declared.component.Role.{Role}
use Rattle.cpl_comp.specs.declared.component.Role.TheVariants.{Var, Import, Export}
use Rattle.cpl_grid.specs.Grid.{cells_in}
use Rattle.cpl_match.specs.declared.port.Port.{Port}
use Rattle.cpl_match.specs.declared.port.Way.{Way}
use Rattle.cpl_sequence.specs.declared.link_line.LinkLine.{LinkLine}
use Rattle.cpl_sequence.specs.declared.link_line.Method.{Method}
use Rattle.cpl_sequence.specs.declared.link_line.Method.TheVariants.{Redist, Weights}
use Rattle.cpl_sequence.specs.declared.seq_name.SeqName.{SeqName}

-- ---- ports

-- the port of a field of a component, where its role is this: imports and exports have one
abbrev pub port_by : Role → ℕ → ℕ → Field → Option Port
port_by Var component k field = None
port_by Import component k field =
    Some (record { component = component; field = k; import = true; standard = field.standard; optional = field.optional })
port_by Export component k field =
    Some (record { component = component; field = k; import = false; standard = field.standard; optional = field.optional })

-- the port of a field, given with its place
abbrev pub port_of : ℕ → ℕ × Field → Option Port
port_of component numbered = port_by numbered.1.role component numbered.0 numbered.1

-- the ports of a component, given with its place
abbrev pub comp_ports : ℕ × Comp → List Port
comp_ports numbered = filter_map (port_of numbered.0) (enumerate_from 0 numbered.1.fields)

-- the ports of all components
abbrev pub ports_of : List Comp → List Port
ports_of comps = flat_map comp_ports (enumerate_from 0 comps)

-- how many cells each component has
abbrev pub cell_counts : List Comp → List ℕ
cell_counts comps = map (λ comp. cells_in comp.decomp.grid) comps

-- ---- ways

-- whether a method redistributes
abbrev pub is_redist : Method → Bool
is_redist Redist = true
is_redist Weights = false

-- the way of a connector
abbrev pub way_of : LinkLine → Way
way_of line = record { src = line.src; dst = line.dst; redist = is_redist line.method }

-- ---- names

-- a component as the run sequence may name it
abbrev pub name_of : Comp → SeqName
name_of comp = record { name = comp.name; phases = map (λ phase. phase.label) comp.phases; substep = comp.substep }

-- all components
abbrev pub names_of : List Comp → List SeqName
names_of comps = map name_of comps
