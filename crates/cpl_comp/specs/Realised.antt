-- A component as it is realised: over its grid, with its rules.
use Rattle.std.specs.Prelude.{ℕ, List, [], ◌∷◌, ◌++◌, length, map, codes, Option, Some, None, option_map, Result, Ok, Err}
use Rattle.std.specs.List.{filter_map}
use Rattle.cpl_base.specs.ResultChain.{◌>>=◌}
use Rattle.cpl_config.specs.Items.{table_under}
use Rattle.cpl_config.specs.declared.entry.Entry.{Entry}
use Rattle.cpl_config.specs.declared.row.Row.{Row}
use Rattle.cpl_formula.specs.declared.formula.EntrySign.{EntrySign}
use Rattle.cpl_grid.specs.Owners.{Layout}
use Rattle.cpl_comp.specs.Advertised.{Advertisement}
use Rattle.cpl_comp.specs.Grids.{blocks_in, grid_in, layout_of, substep_in}
use Rattle.cpl_comp.specs.Halos.{halo_of}
use Rattle.cpl_comp.specs.Labels.{own_values}
use Rattle.cpl_comp.specs.Pets.{first_pet_in, pet_count_in}
use Rattle.cpl_comp.specs.PhaseRows.{PhaseRows, PhaseScope, after_rows, no_rows}
use Rattle.cpl_comp.specs.Rules.{Scope, rule_of}
use Rattle.cpl_comp.specs.declared.component.Comp.{Comp}
use Rattle.cpl_comp.specs.declared.component.Field.{Field}
use Rattle.cpl_comp.specs.declared.component.Phase.{Phase}
use Rattle.cpl_comp.specs.declared.component.Role.{Role}
use Rattle.cpl_comp.specs.declared.component.Role.TheVariants.{Var, Import, Export}
use Rattle.cpl_comp.specs.declared.component.Rule.{Rule}
use Rattle.cpl_comp.specs.declared.fault.CompFault.{CompFault}
use Rattle.cpl_comp.specs.declared.fault.CompFault.TheVariants.{MissingLabel}
use Rattle.cpl_comp.specs.declared.field_rows.FieldRow.{FieldRow}

-- ---- the grid

-- the decomposed grid of a component, which has so many PETs from the first on
abbrev pub layout_in : List Entry → List ℕ → (first_pet pets : ℕ) → Result Layout CompFault
layout_in entries component first_pet pets =
    grid_in (own_values entries component (codes "_grid")) >>= (λ grid.
    blocks_in pets (own_values entries component (codes "_decomp")) >>= (λ blocks.
    layout_of grid first_pet pets blocks))

-- ---- start rules

-- the name by which a start rule may read a field: none, but that of an import
abbrev pub start_name : Role → List ℕ → List ℕ
start_name Var name = []
start_name Import name = name
start_name Export name = []

-- what start rules may name
abbrev pub start_scope : List FieldRow → List (List ℕ) → List EntrySign → Scope
start_scope fields alarms signs =
    record { fields = map (λ row. start_name row.role row.name) fields; alarms = alarms; signs = signs }

-- the start rule of a field; an import has none
abbrev pub start_of : Scope → Role → ℕ → List (List ℕ) → Result (Option Rule) CompFault
start_of scope Var line words = rule_of scope line words >>= (λ rule. Ok (Some rule))
start_of scope Import line words = Ok None
start_of scope Export line words = rule_of scope line words >>= (λ rule. Ok (Some rule))

-- a field with this start rule
abbrev pub field_with : FieldRow → Option Rule → Field
field_with row start = record {
  name = row.name;
  role = row.role;
  standard = row.standard;
  units = row.units;
  wanted = row.demand.wanted;
  optional = row.demand.optional;
  at_init = row.demand.at_init;
  start = start;
  line = row.line;
}

-- a field with its start rule, if it has one
abbrev pub started_field : Scope → FieldRow → Result Field CompFault
started_field scope row = start_of scope row.role row.line row.rule >>= (λ start. Ok (field_with row start))

-- these fields and further ones with their start rules, or the first fault
abbrev pub started_with : Scope → List Field → List FieldRow → Result (List Field) CompFault
started_with scope before [] = Ok before
started_with scope before (row ∷ rows) = started_field scope row >>= (λ field. started_with scope (before ++ field ∷ []) rows)

-- the start rules of fields, in their order
abbrev pub start_rules : List Field → List Rule
start_rules fields = filter_map (λ field. field.start) fields

-- ---- phases

-- what the rows of phases are read over
abbrev pub phase_scope : Advertisement → List (List ℕ) → List EntrySign → PhaseScope
phase_scope ad alarms signs = record {
  kind = ad.kind;
  roles = map (λ row. row.role) ad.fields;
  rules = record { fields = map (λ row. row.name) ad.fields; alarms = alarms; signs = signs };
}

-- the rules of a phase: those of its assignments, then those of what it keeps
abbrev pub phase_rules : PhaseRows → List Rule
phase_rules rows = map (λ row. row.rule) rows.sets ++ map (λ row. row.rule) rows.adds

-- the phase of these rows
abbrev pub phase_of : ℕ → List ℕ → PhaseRows → Phase
phase_of count label rows = record {
  label = label;
  sets = rows.sets;
  merges = rows.merges;
  adds = rows.adds;
  averages = rows.averages;
  ranges = rows.ranges;
  halo = halo_of count (phase_rules rows);
}

-- the phase of the rows of a table, if there is one
abbrev pub phase_in : PhaseScope → List ℕ → List ℕ → Option (List Row) → Result Phase CompFault
phase_in scope table label None = Err (MissingLabel table)
phase_in scope table label (Some rows) = after_rows scope no_rows rows >>= (λ read. Ok (phase_of (length scope.roles) label read))

-- the label of a phase's table
abbrev pub phase_label : List ℕ → List ℕ → List ℕ
phase_label component label = component ++ codes "_phase_" ++ label

-- the phase of a name
abbrev pub phase_named : PhaseScope → List Entry → List ℕ → List ℕ → Result Phase CompFault
phase_named scope entries component label =
    phase_in scope (phase_label component label) label (option_map (λ table. table.rows) (table_under (phase_label component label) entries))

-- these phases and those of further names, or the first fault
abbrev pub phases_with : PhaseScope → List Entry → List ℕ → List Phase → List (List ℕ) → Result (List Phase) CompFault
phases_with scope entries component before [] = Ok before
phases_with scope entries component before (label ∷ labels) =
    phase_named scope entries component label >>= (λ phase. phases_with scope entries component (before ++ phase ∷ []) labels)

-- ---- the component

-- the component of an advertisement, of so many PETs in all and over these alarms and entries, or the first fault
unfoldable pub realised_component : List Entry → Advertisement → ℕ → List (List ℕ) → List EntrySign → Result Comp CompFault
realised_component entries ad pets alarms signs =
    layout_in entries ad.name (first_pet_in ad.bounds) (pet_count_in ad.bounds pets) >>= (λ layout.
    substep_in ad.kind (own_values entries ad.name (codes "_substep")) >>= (λ substep.
    started_with (start_scope ad.fields alarms signs) [] ad.fields >>= (λ fields.
    phases_with (phase_scope ad alarms signs) entries ad.name [] ad.phases >>= (λ phases.
    Ok (record {
      name = ad.name;
      kind = ad.kind;
      first_pet = first_pet_in ad.bounds;
      pets = pet_count_in ad.bounds pets;
      decomp = layout;
      substep = substep;
      fields = fields;
      phases = phases;
      start_halo = halo_of (length fields) (start_rules fields);
    })))))
