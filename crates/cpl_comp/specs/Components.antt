-- What holds of a component that was read.
use Rattle.std.specs.Prelude.{◌≡◌, ◌≢◌, ℕ, ℤ, pos, ◌+◌, ◌<◌, ◌≤◌, ◌≤ℤ◌, ◌^◌, Bool, true, false, not, List, [], ◌++◌, length, filter, map, slice_index, Option, Some, None, is_some, IsTrue}
use Rattle.std.specs.List.{All, AllPairs, list_all, slice_get}
use Rattle.std.specs.Option.{ForSome}
use Rattle.cpl_base.specs.Numbers.{IsValue}
use Rattle.cpl_base.specs.Words.{are_distinct, is_name}
use Rattle.cpl_formula.specs.Arguments.{IsArgument}
use Rattle.cpl_formula.specs.FieldNames.{is_field_name}
use Rattle.cpl_formula.specs.Reads.{AreReads}
use Rattle.cpl_formula.specs.Tree.{is_over}
use Rattle.cpl_formula.specs.declared.arguments.Argument.{Argument}
use Rattle.cpl_formula.specs.declared.formula.EntrySign.{EntrySign}
use Rattle.cpl_formula.specs.declared.formula.Parsed.{Parsed}
use Rattle.cpl_formula.specs.declared.formula.ReadName.{ReadName}
use Rattle.cpl_formula.specs.declared.formula.ReadName.TheVariants as names
use Rattle.cpl_grid.specs.Owners.{IsLayout, pets_in}
use Rattle.cpl_comp.specs.Advertised.{Advertisement}
use Rattle.cpl_comp.specs.FieldRows.{no_demand}
use Rattle.cpl_comp.specs.Halos.{halo_of, has_read}
use Rattle.cpl_comp.specs.Pets.{AreBounds}
use Rattle.cpl_comp.specs.PhaseRows.{is_own}
use Rattle.cpl_comp.specs.Realised.{start_rules}
use Rattle.cpl_comp.specs.Scopes.{AreShort}
use Rattle.cpl_comp.specs.declared.component.Comp.{Comp}
use Rattle.cpl_comp.specs.declared.component.Field.{Field}
use Rattle.cpl_comp.specs.declared.component.Kind.{Kind}
use Rattle.cpl_comp.specs.declared.component.Kind.TheVariants.{Model, Mediator}
use Rattle.cpl_comp.specs.declared.component.MergeRow.{MergeRow}
use Rattle.cpl_comp.specs.declared.component.Phase.{Phase}
use Rattle.cpl_comp.specs.declared.component.RangeRow.{RangeRow}
use Rattle.cpl_comp.specs.declared.component.Role.{Role}
use Rattle.cpl_comp.specs.declared.component.Role.TheVariants.{Var, Import, Export}
use Rattle.cpl_comp.specs.declared.component.Rule.{Rule}
use Rattle.cpl_comp.specs.declared.component.Rule.TheVariants.{Plain, Native}
use Rattle.cpl_comp.specs.declared.component.Wanted.TheVariants.{Unchecked}
use Rattle.cpl_comp.specs.declared.field_rows.FieldRow.{FieldRow}

-- What a component may name of what is around it: how many PETs and alarms there are, and how many inputs each native
-- entry has.
pub record Limits : Type 0 where
  pub pets : ℕ
  pub alarms : ℕ
  pub inputs : List ℕ

-- the limits that these alarms and entries are
abbrev pub limits_of : ℕ → List (List ℕ) → List EntrySign → Limits
limits_of pets alarms signs = record { pets = pets; alarms = length alarms; inputs = map (λ sign. sign.inputs) signs }

-- ---- rules

-- A formula over so many fields: its inputs are its reads, each of them there and once.
pub record IsFormula (limits : Limits) (fields : ℕ) (parsed : Parsed) : Type 0 where
  pub reads : AreReads fields limits.alarms parsed.reads
  pub over : IsTrue (is_over (length parsed.reads) parsed.tree)

-- A call over so many fields: the entry is there, and there is an argument for each of its inputs.
pub record IsCall (limits : Limits) (fields entry : ℕ) (arguments : List Argument) : Type 0 where
  pub there : entry < length limits.inputs
  pub inputs : slice_index limits.inputs entry ≡ length arguments
  pub arguments_are : All (IsArgument fields limits.alarms) arguments

-- A rule over so many fields.
pub record IsRule (limits : Limits) (fields : ℕ) (rule : Rule) : Type 0 where
  pub formula : (parsed : Parsed) → rule ≡ Plain parsed → IsFormula limits fields parsed
  pub call : (entry : ℕ) (arguments : List Argument) → rule ≡ Native entry arguments → IsCall limits fields entry arguments

-- ---- fields

-- what each of a component's fields is to it
abbrev pub roles_of : List Field → List Role
roles_of fields = map (λ field. field.role) fields

-- whether a role is this one
abbrev pub is_role : Role → Role → Bool
is_role Var Var = true
is_role Import Import = true
is_role Export Export = true
is_role a b = false

-- whether there is a field and it is an import
abbrev pub is_import : Option Role → Bool
is_import None = false
is_import (Some role) = is_role Import role

-- whether a name that is read is that of a field which is no import
abbrev pub is_foreign : List Role → ReadName → Bool
is_foreign roles (names.Field k) = not (is_import (slice_get roles k))
is_foreign roles name = false

-- a rule reads no field but imports
abbrev pub reads_imports : List Role → Rule → Bool
reads_imports roles rule = not (has_read (λ read. is_foreign roles read.name) rule)

-- A start rule: a rule that reads imports alone.
pub record IsStart (limits : Limits) (roles : List Role) (rule : Rule) : Type 0 where
  pub rule_is : IsRule limits (length roles) rule
  pub imports : reads_imports roles rule ≡ true

-- A field that is no import has a start rule, and nothing is asked of it.
pub record IsUnasked (field : Field) : Type 0 where
  pub started : is_some field.start ≡ true
  pub unchecked : field.wanted ≡ Unchecked
  pub needed : field.optional ≡ false
  pub later : field.at_init ≡ false

-- A field among fields of these roles: an import without a start rule, or another with one.
pub record IsField (limits : Limits) (roles : List Role) (field : Field) : Type 0 where
  pub named : is_field_name field.name ≡ true
  pub start : ForSome field.start (IsStart limits roles)
  pub import : field.role ≡ Import → field.start ≡ None
  pub other : field.role ≢ Import → IsUnasked field

-- Fields in the order of their tables: variables, then imports, then exports.
abbrev pub AreInOrder : List Role → Type 0
AreInOrder roles = roles ≡ filter (is_role Var) roles ++ filter (is_role Import) roles ++ filter (is_role Export) roles

-- ---- phases

-- the fields that take a new value in a phase
abbrev pub written_fields : Phase → List ℕ
written_fields phase = map (λ row. row.field) phase.sets ++ map (λ row. row.field) phase.merges ++ phase.averages

-- the fields for which a phase keeps a value
abbrev pub added_fields : Phase → List ℕ
added_fields phase = map (λ row. row.field) phase.adds

-- the rules of a phase: those of its assignments, then those of what it keeps
abbrev pub rules_of : Phase → List Rule
rules_of phase = map (λ row. row.rule) phase.sets ++ map (λ row. row.rule) phase.adds

-- A product of two fields among so many.
pub record IsTerm (fields : ℕ) (term : ℕ × ℕ) : Type 0 where
  pub first : term.0 < fields
  pub second : term.1 < fields

-- A sum of one to 32 products of fields among so many.
pub record IsMerge (fields : ℕ) (row : MergeRow) : Type 0 where
  pub some : 1 ≤ length row.terms
  pub few : length row.terms ≤ 32
  pub terms : All (IsTerm fields) row.terms

-- A range of a field among so many: both ends are values and in order.
pub record IsRange (fields : ℕ) (row : RangeRow) : Type 0 where
  pub field : row.field < fields
  pub low : IsValue row.low
  pub high : IsValue row.high
  pub ordered : row.low ≤ℤ row.high

-- A model keeps, averages and merges nothing.
pub record OnlySets (phase : Phase) : Type 0 where
  pub adds : phase.adds ≡ []
  pub averages : phase.averages ≡ []
  pub merges : phase.merges ≡ []

-- A phase over fields of these roles: what it gives a new value and what it keeps values for are variables and exports,
-- each once.
pub record IsPhase (limits : Limits) (kind : Kind) (roles : List Role) (phase : Phase) : Type 0 where
  pub named : is_name phase.label ≡ true
  pub rules : All (IsRule limits (length roles)) (rules_of phase)
  pub merges : All (IsMerge (length roles)) phase.merges
  pub ranges : All (IsRange (length roles)) phase.ranges
  pub few_ranges : length phase.ranges ≤ 8
  pub few_averages : length phase.averages ≤ 64
  pub written_own : list_all (λ k. is_own (slice_get roles k)) (written_fields phase) ≡ true
  pub written_once : AllPairs (λ a b. a ≢ b) (written_fields phase)
  pub added_own : list_all (λ k. is_own (slice_get roles k)) (added_fields phase) ≡ true
  pub added_once : AllPairs (λ a b. a ≢ b) (added_fields phase)
  pub model : kind ≡ Model → OnlySets phase
  pub halo : phase.halo ≡ halo_of (length roles) (rules_of phase)

-- ---- components

-- A substep, in seconds.
pub record IsSubstep (seconds : ℤ) : Type 0 where
  pub least : pos 1 ≤ℤ seconds
  pub most : seconds ≤ℤ pos 1000000000

-- What holds of a component within its limits.
pub record IsComponent (limits : Limits) (comp : Comp) : Type 0 where
  pub decomposition : IsLayout comp.decomp
  pub first_pet : comp.decomp.first_pet ≡ comp.first_pet
  pub pet_count : pets_in comp.decomp ≡ comp.pets
  pub pets_within : comp.first_pet + comp.pets ≤ limits.pets
  pub substep : ForSome comp.substep IsSubstep
  pub mediator : comp.kind ≡ Mediator → comp.substep ≡ None
  pub few_fields : length comp.fields ≤ 64
  pub names : are_distinct (map (λ field. field.name) comp.fields) ≡ true
  pub order : AreInOrder (roles_of comp.fields)
  pub fields : All (IsField limits (roles_of comp.fields)) comp.fields
  pub some_phases : 1 ≤ length comp.phases
  pub few_phases : length comp.phases ≤ 16
  pub labels : are_distinct (map (λ phase. phase.label) comp.phases) ≡ true
  pub phases : All (IsPhase limits comp.kind (roles_of comp.fields)) comp.phases
  pub start_halo : comp.start_halo ≡ halo_of (length comp.fields) (start_rules comp.fields)

-- A component and the limits that it keeps to.
pub record Realisation : Type 0 where
  pub comp : Comp
  pub limits : Limits

-- ---- what is advertised

-- the words of a rule, joined by single blanks, have fewer than 2^32 bytes
abbrev pub HasShortRule : FieldRow → Type 0
HasShortRule row = AreShort row.rule

-- nothing is asked of a field that is no import
abbrev pub IsUnaskedRow : FieldRow → Type 0
IsUnaskedRow row = row.role ≢ Import → row.demand ≡ no_demand

-- What holds of an advertisement.
pub record IsAdvertised (ad : Advertisement) : Type 0 where
  pub bounds : ForSome ad.bounds AreBounds
  pub few_fields : length ad.fields ≤ 64
  pub named : list_all (λ row. is_field_name row.name) ad.fields ≡ true
  pub names : are_distinct (map (λ row. row.name) ad.fields) ≡ true
  pub order : AreInOrder (map (λ row. row.role) ad.fields)
  pub short : All HasShortRule ad.fields
  pub unasked : All IsUnaskedRow ad.fields
  pub some_phases : 1 ≤ length ad.phases
  pub few_phases : length ad.phases ≤ 16
  pub phase_names : list_all is_name ad.phases ≡ true
  pub phases_once : are_distinct ad.phases ≡ true

-- What realising asks of what it is given: there are PETs, and those of the component are among them; few alarms and
-- entries.
pub record IsAskedOver (ad : Advertisement) (pets alarms signs : ℕ) : Type 0 where
  pub some_pets : 1 ≤ pets
  pub few_pets : pets ≤ 64
  pub above : ForSome ad.bounds (λ bounds. bounds.1 < pets)
  pub few_alarms : alarms ≤ 64
  pub few_signs : signs < 2 ^ 16
