-- The fields of a component by the rows of its tables, in the order of the tables.
use Rattle.std.specs.Prelude.{ℕ, Bool, true, false, not, ◌&&◌, ◌||◌, if◌then◌else◌, nat_le, List, [], ◌∷◌, ◌++◌, length, count_by, codes, Option, Some, None, is_some, Result, Ok, Err}
use Rattle.std.specs.List.{list_all, list_any}
use Rattle.std.specs.Option.{ok_or}
use Rattle.std.specs.Str.{bytes_eq}
use Rattle.cpl_base.specs.ResultChain.{◌>>=◌, ok_if}
use Rattle.cpl_base.specs.Words.{is_some_of, place_of}
use Rattle.cpl_config.specs.declared.entry.Entry.{Entry}
use Rattle.cpl_config.specs.declared.row.Row.{Row}
use Rattle.cpl_dict.specs.Dict.{Dictionary, units_of}
use Rattle.cpl_formula.specs.FieldNames.{is_field_name}
use Rattle.cpl_comp.specs.Labels.{own_rows}
use Rattle.cpl_comp.specs.declared.component.Role.{Role}
use Rattle.cpl_comp.specs.declared.component.Role.TheVariants.{Var, Import, Export}
use Rattle.cpl_comp.specs.declared.component.Wanted.{Wanted}
use Rattle.cpl_comp.specs.declared.component.Wanted.TheVariants.{Current, Next, Unchecked}
use Rattle.cpl_comp.specs.declared.fault.CompFault.{CompFault}
use Rattle.cpl_comp.specs.declared.fault.CompFault.TheVariants.{BadValue, FieldTwice, StandardUnknown, UnitsDiffer, TooManyFields}
use Rattle.cpl_comp.specs.declared.field_words.Demand.{Demand}
use Rattle.cpl_comp.specs.declared.field_rows.FieldRow.{FieldRow}

-- ---- the form of a row

-- whether a word is `=`
abbrev pub is_equals : List ℕ → Bool
is_equals word = bytes_eq word (codes "=")

-- a word that may be a standard name: of at most 64 bytes, and not `synonym`
abbrev pub is_standard_name : List ℕ → Bool
is_standard_name word = nat_le (length word) 64 && not (bytes_eq word (codes "synonym"))

-- an option of an import that says which time stamp it must have
abbrev pub is_check : List ℕ → Bool
is_check word = bytes_eq word (codes "check=current") || bytes_eq word (codes "check=next") || bytes_eq word (codes "check=none")

-- an option of an import
abbrev pub is_option : List ℕ → Bool
is_option word = is_check word || bytes_eq word (codes "optional") || bytes_eq word (codes "init")

-- all words are options of an import
abbrev pub are_known : List (List ℕ) → Bool
are_known words = list_all is_option words

-- at most one of the options says which time stamp an import must have
abbrev pub has_one_check : List (List ℕ) → Bool
has_one_check words = nat_le (count_by is_check words) 1

-- a word stands at most once among others
abbrev pub stands_once : List ℕ → List (List ℕ) → Bool
stands_once word words = nat_le (count_by (λ other. bytes_eq other word) words) 1

-- the options of an import: each at most once, and one check at most
abbrev pub are_options : List (List ℕ) → Bool
are_options words =
    are_known words && has_one_check words && stands_once (codes "optional") words && stands_once (codes "init") words

-- whether a word stands among others
abbrev pub has_word : List ℕ → List (List ℕ) → Bool
has_word word words = is_some (place_of words word)

-- which time stamp an import must have by its options
abbrev pub wanted_in : List (List ℕ) → Wanted
wanted_in words =
    if has_word (codes "check=next") words then Next
    else if has_word (codes "check=none") words then Unchecked
    else Current

-- what an import's options say
abbrev pub demand_in : List (List ℕ) → Demand
demand_in words =
    record { wanted = wanted_in words; optional = has_word (codes "optional") words; at_init = has_word (codes "init") words }

-- what holds of a field that is no import
abbrev pub no_demand : Demand
no_demand = record { wanted = Unchecked; optional = false; at_init = false }

-- What a row says of a field: its name, its standard name and units (empty for a variable), what is asked of it where
-- it is an import, and the words of its start rule (none for an import).
pub record FieldParts : Type 0 where
  pub name : List ℕ
  pub standard : List ℕ
  pub units : List ℕ
  pub demand : Demand
  pub rule : List (List ℕ)

-- these parts, where the row has the form
abbrev pub parts_if : Bool → FieldParts → Option FieldParts
parts_if true parts = Some parts
parts_if false parts = None

-- a variable: `name = RULE`
abbrev pub var_parts : List (List ℕ) → Option FieldParts
var_parts (name ∷ equals ∷ rule) =
    parts_if (is_field_name name && is_equals equals && is_some_of rule)
    (record { name = name; standard = []; units = []; demand = no_demand; rule = rule })
var_parts words = None

-- an import: `name standard units` and options
abbrev pub import_parts : List (List ℕ) → Option FieldParts
import_parts (name ∷ standard ∷ units ∷ options) =
    parts_if (is_field_name name && is_standard_name standard && are_options options)
    (record { name = name; standard = standard; units = units; demand = demand_in options; rule = [] })
import_parts words = None

-- an export: `name standard units = RULE`
abbrev pub export_parts : List (List ℕ) → Option FieldParts
export_parts (name ∷ standard ∷ units ∷ equals ∷ rule) =
    parts_if (is_field_name name && is_standard_name standard && is_equals equals && is_some_of rule)
    (record { name = name; standard = standard; units = units; demand = no_demand; rule = rule })
export_parts words = None

-- a row of the table of variables, of imports or of exports
abbrev pub field_parts : Role → List (List ℕ) → Option FieldParts
field_parts Var words = var_parts words
field_parts Import words = import_parts words
field_parts Export words = export_parts words

-- ---- a field

-- the field of a row, with the words of its start rule
abbrev pub field_row : Role → ℕ → FieldParts → FieldRow
field_row role line parts = record {
  name = parts.name;
  role = role;
  standard = parts.standard;
  units = parts.units;
  demand = parts.demand;
  line = line;
  rule = parts.rule;
}

-- whether a field of this name stands among these
abbrev pub has_field : List ℕ → List FieldRow → Bool
has_field name fields = list_any (λ other. bytes_eq name other.name) fields

-- the units are those of the standard name, which the dictionary has
abbrev pub units_check : ℕ → List ℕ → Option (List ℕ) → Result (Unit {0}) CompFault
units_check line units None = Err (StandardUnknown line)
units_check line units (Some known) = ok_if (bytes_eq known units) (UnitsDiffer line)

-- the dictionary has the standard name of an import or an export, with these units
abbrev pub standard_check : Dictionary → Role → ℕ → FieldParts → Result (Unit {0}) CompFault
standard_check dict Var line parts = Ok tt
standard_check dict Import line parts = units_check line parts.units (units_of dict parts.standard)
standard_check dict Export line parts = units_check line parts.units (units_of dict parts.standard)

-- the field of a row, behind these fields
abbrev pub field_of : Dictionary → Role → List FieldRow → Row → Result FieldRow CompFault
field_of dict role before row =
    ok_or (field_parts role row.words) (BadValue row.line) >>= (λ parts.
    ok_if (not (has_field parts.name before)) (FieldTwice row.line) >>= (λ _.
    standard_check dict role row.line parts >>= (λ _.
    Ok (field_row role row.line parts))))

-- these fields and those of further rows, or the first fault
abbrev pub fields_with : Dictionary → Role → List FieldRow → List Row → Result (List FieldRow) CompFault
fields_with dict role before [] = Ok before
fields_with dict role before (row ∷ rows) = field_of dict role before row >>= (λ field. fields_with dict role (before ++ field ∷ []) rows)

-- fields, if they are at most 64
abbrev pub few_fields : List FieldRow → Result (List FieldRow) CompFault
few_fields fields = if nat_le (length fields) 64 then Ok fields else Err (TooManyFields (length fields))

-- the fields of a component: variables, imports and exports, at most 64
unfoldable pub fields_in : Dictionary → List Entry → List ℕ → Result (List FieldRow) CompFault
fields_in dict entries component =
    fields_with dict Var [] (own_rows entries component (codes "_vars")) >>= (λ vars.
    fields_with dict Import vars (own_rows entries component (codes "_import")) >>= (λ more.
    fields_with dict Export more (own_rows entries component (codes "_export")) >>= few_fields))
