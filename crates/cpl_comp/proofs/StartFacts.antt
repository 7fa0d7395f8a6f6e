-- What holds of fields with their start rules: a start rule reads imports alone.
use Rattle.std.proofs.Common.{◌≡◌, ◌≢◌, ℕ, zero, suc, ◌<◌, true, false, not, List, [], ◌∷◌, ◌++◌, length, get_or, map, is_some, All, Option, Some, None, IfOk, refl, sym, ap, ◌∙◌, subst, ◌+◌, arith, append_assoc, length-append}
use Rattle.std.specs.List.{list_all, slice_get}
use Rattle.std.specs.Option.{ForSome}
use Rattle.std.specs.Str.{bytes_eq}
use Rattle.std.proofs.lemmas.Bool.{and_parts, false≢true, not_from_false}
use Rattle.std.proofs.lemmas.List.{append-nil, length-map, map-append}
use Rattle.std.proofs.lemmas.List.Elements.{All-head, All-push, All-tail, All-weaker}
use Rattle.std.proofs.lemmas.List.Folds.{list_any_none}
use Rattle.std.proofs.lemmas.List.Quantifiers.{position-Some}
use Rattle.std.proofs.lemmas.Slice.Eq.{bytes_eq-Decides}
use Rattle.cpl_base.specs.Words.{is_some_of}
use Rattle.cpl_formula.specs.FieldNames.{is_field_name}
use Rattle.cpl_formula.specs.declared.arguments.Argument.{Argument}
use Rattle.cpl_formula.specs.declared.arguments.Argument.TheVariants.{Number, Cell}
use Rattle.cpl_formula.specs.declared.formula.EntrySign.{EntrySign}
use Rattle.cpl_formula.specs.declared.formula.Read.{Read}
use Rattle.cpl_formula.specs.declared.formula.ReadName.{ReadName}
use Rattle.cpl_formula.specs.declared.formula.ReadName.TheVariants as names
use Rattle.cpl_formula.proofs.NamedFacts.{IsNamedArgument, IsNamedPlace, IsNamedRead}
use Rattle.cpl_comp.specs.Components.{IsField, IsRule, IsStart, IsUnaskedRow, is_foreign, is_import, limits_of, reads_imports, roles_of}
use Rattle.cpl_comp.specs.Halos.{is_cell_of}
use Rattle.cpl_comp.specs.Realised.{field_with, start_name, start_of, start_scope, started_field, started_with}
use Rattle.cpl_comp.specs.Rules.{Scope, rule_of}
use Rattle.cpl_comp.specs.declared.component.Field.{Field}
use Rattle.cpl_comp.specs.declared.component.Role.{Role}
use Rattle.cpl_comp.specs.declared.component.Role.TheVariants.{Var, Import, Export}
use Rattle.cpl_comp.specs.declared.component.Rule.{Rule}
use Rattle.cpl_comp.specs.declared.component.Rule.TheVariants.{Plain, Native}
use Rattle.cpl_comp.specs.declared.field_rows.FieldRow.{FieldRow}
use Rattle.cpl_comp.specs.declared.field_words.Demand.{Demand}
use Rattle.cpl_comp.proofs.ResultFacts.{bind-IfOk, bind-fact, map-IfOk, none-ForSome, some-ForSome}
use Rattle.cpl_comp.proofs.RuleFacts.{IsRuleOver, rule_of-over}

-- ---- what a start rule reads

-- the roles of fields that were advertised
abbrev pub row_roles : List FieldRow → List Role
row_roles rows = map (λ row. row.role) rows

-- the names by which start rules may read fields
abbrev start_names : List FieldRow → List (List ℕ)
start_names rows = map (λ row. start_name row.role row.name) rows

-- a field that start rules may read by a name is an import
start_name-import : (role : Role) (name : List ℕ) → is_some_of (start_name role name) ≡ true → role ≡ Import
start_name-import Var name some = absurd (false≢true some)
start_name-import Import name some = refl
start_name-import Export name some = absurd (false≢true some)

-- and so is that of a place
start_names-import : (rows : List FieldRow) (k : ℕ) → k < length (start_names rows) → is_some_of (get_or (start_names rows) k []) ≡ true → slice_get (row_roles rows) k ≡ Some Import
start_names-import [] k below some = absurd (omega arith)
start_names-import (row ∷ rows) zero below some = ap Some (start_name-import row.role row.name some)
start_names-import (row ∷ rows) (suc k) below some = start_names-import rows k (omega arith) some

-- and so is that of a name that was found
place-import : (rows : List FieldRow) (k : ℕ) → IsNamedPlace (start_names rows) k → slice_get (row_roles rows) k ≡ Some Import
place-import rows k named =
    let found = position-Some (λ (other : List ℕ). bytes_eq other named.name) (start_names rows) k [] named.found in
    let same : get_or (start_names rows) k [] ≡ named.name = (bytes_eq-Decides (get_or (start_names rows) k []) named.name).0 found.1 in
    start_names-import rows k found.0 (ap is_some_of same ∙ named.some)

-- no name that is read is that of another field
name-import : (rows : List FieldRow) (name : ReadName) → ((k : ℕ) → name ≡ names.Field k → IsNamedPlace (start_names rows) k) → is_foreign (row_roles rows) name ≡ false
name-import rows (names.Field k) named = ap (λ role. not (is_import role)) (place-import rows k (named k refl))
name-import rows name named = refl

-- so a read is of none
read-import : (rows : List FieldRow) (read : Read) → IsNamedRead (start_names rows) read → is_foreign (row_roles rows) read.name ≡ false
read-import rows read named = name-import rows read.name named.named

-- nor is an argument
argument-import : (rows : List FieldRow) (argument : Argument) → IsNamedArgument (start_names rows) argument → is_cell_of (λ read. is_foreign (row_roles rows) read.name) argument ≡ false
argument-import rows (Number z) named = refl
argument-import rows (Cell read) named = read-import rows read named

-- a rule over such names reads no field but imports
rule-imports : (pets : ℕ) (rows : List FieldRow) (alarms : List (List ℕ)) (signs : List EntrySign) (rule : Rule) → IsRuleOver pets (start_scope rows alarms signs) rule → reads_imports (row_roles rows) rule ≡ true
rule-imports pets rows alarms signs (Plain parsed) over =
    not_from_false _ (list_any_none (λ read. is_foreign (row_roles rows) read.name) parsed.reads (All-weaker (IsNamedRead (start_names rows)) _ (read-import rows) parsed.reads (over.formula_named parsed refl)))
rule-imports pets rows alarms signs (Native entry arguments) over =
    not_from_false _ (list_any_none (is_cell_of (λ read. is_foreign (row_roles rows) read.name)) arguments (All-weaker (IsNamedArgument (start_names rows)) _ (argument-import rows) arguments (over.call_named entry arguments refl)))

-- it is a start rule
rule-start : (pets : ℕ) (rows : List FieldRow) (alarms : List (List ℕ)) (signs : List EntrySign) (rule : Rule) → IsRuleOver pets (start_scope rows alarms signs) rule → IsStart (limits_of pets alarms signs) (row_roles rows) rule
rule-start pets rows alarms signs rule over =
    let count : length (start_names rows) ≡ length (row_roles rows) = length-map rows (λ (row : FieldRow). start_name row.role row.name) ∙ sym (length-map rows (λ (row : FieldRow). row.role)) in
    record {
      rule_is = let P : ℕ → Type 0 = λ n. IsRule (limits_of pets alarms signs) n rule in subst P count over.is;
      imports = rule-imports pets rows alarms signs rule over;
    }

-- ---- a field with its start rule

-- The start rule of a field of this role, if it has one.
record IsStartOf (pets : ℕ) (rows : List FieldRow) (alarms : List (List ℕ)) (signs : List EntrySign) (role : Role) (start : Option Rule) : Type 0 where
  is : ForSome start (IsStart (limits_of pets alarms signs) (row_roles rows))
  none : role ≡ Import → start ≡ None
  some : role ≢ Import → is_some start ≡ true

-- a rule of a field that is no import
some-start : (pets : ℕ) (rows : List FieldRow) (alarms : List (List ℕ)) (signs : List EntrySign) (role : Role) (rule : Rule) → role ≢ Import → IsRuleOver pets (start_scope rows alarms signs) rule → IsStartOf pets rows alarms signs role (Some rule)
some-start pets rows alarms signs role rule other over = record {
  is = some-ForSome (IsStart (limits_of pets alarms signs) (row_roles rows)) rule (rule-start pets rows alarms signs rule over);
  none = λ import. absurd (other import);
  some = λ _. refl;
}

-- the start rule of a field
start_of-is : (pets : ℕ) (rows : List FieldRow) (alarms : List (List ℕ)) (signs : List EntrySign) (role : Role) (line : ℕ) (words : List (List ℕ)) → IfOk (start_of (start_scope rows alarms signs) role line words) (IsStartOf pets rows alarms signs role)
start_of-is pets rows alarms signs Var line words =
    bind-fact (IsStartOf pets rows alarms signs Var) (IsRuleOver pets (start_scope rows alarms signs)) (rule_of (start_scope rows alarms signs) line words) _ (rule_of-over pets (start_scope rows alarms signs) line words) (λ rule over.
    some-start pets rows alarms signs Var rule (λ same. cc) over)
start_of-is pets rows alarms signs Import line words = record {
  is = none-ForSome (IsStart (limits_of pets alarms signs) (row_roles rows));
  none = λ _. refl;
  some = λ other. absurd (other refl);
}
start_of-is pets rows alarms signs Export line words =
    bind-fact (IsStartOf pets rows alarms signs Export) (IsRuleOver pets (start_scope rows alarms signs)) (rule_of (start_scope rows alarms signs) line words) _ (rule_of-over pets (start_scope rows alarms signs) line words) (λ rule over.
    some-start pets rows alarms signs Export rule (λ same. cc) over)

-- A field of a row, among the fields of rows.
record IsFieldOf (pets : ℕ) (rows : List FieldRow) (alarms : List (List ℕ)) (signs : List EntrySign) (row : FieldRow) (field : Field) : Type 0 where
  name : field.name ≡ row.name
  role : field.role ≡ row.role
  is : IsField (limits_of pets alarms signs) (row_roles rows) field

-- a row with its start rule
field_with-is : (pets : ℕ) (rows : List FieldRow) (alarms : List (List ℕ)) (signs : List EntrySign) (row : FieldRow) (start : Option Rule) → is_field_name row.name ≡ true → IsUnaskedRow row → IsStartOf pets rows alarms signs row.role start → IsFieldOf pets rows alarms signs row (field_with row start)
field_with-is pets rows alarms signs row start named unasked is = record {
  name = refl;
  role = refl;
  is = record {
    named = named;
    start = is.is;
    import = is.none;
    other = λ other. record {
      started = is.some other;
      unchecked = ap (λ (d : Demand). d.wanted) (unasked other);
      needed = ap (λ (d : Demand). d.optional) (unasked other);
      later = ap (λ (d : Demand). d.at_init) (unasked other);
    };
  };
}

-- a field as it is read
started_field-is : (pets : ℕ) (rows : List FieldRow) (alarms : List (List ℕ)) (signs : List EntrySign) (row : FieldRow) → is_field_name row.name ≡ true → IsUnaskedRow row → IfOk (started_field (start_scope rows alarms signs) row) (IsFieldOf pets rows alarms signs row)
started_field-is pets rows alarms signs row named unasked =
    bind-fact (IsFieldOf pets rows alarms signs row) (IsStartOf pets rows alarms signs row.role) (start_of (start_scope rows alarms signs) row.role row.line row.rule) _ (start_of-is pets rows alarms signs row.role row.line row.rule) (λ start is.
    field_with-is pets rows alarms signs row start named unasked is)

-- ---- fields

-- The fields of these rows, among the fields of all rows.
pub record AreFieldsOf (pets : ℕ) (rows : List FieldRow) (alarms : List (List ℕ)) (signs : List EntrySign) (of : List FieldRow) (fields : List Field) : Type 0 where
  pub named : map (λ field. field.name) fields ≡ map (λ row. row.name) of
  pub roles : roles_of fields ≡ row_roles of
  pub each : All (IsField (limits_of pets alarms signs) (row_roles rows)) fields

-- one more
fields-push : (pets : ℕ) (rows : List FieldRow) (alarms : List (List ℕ)) (signs : List EntrySign) (of : List FieldRow) (fields : List Field) (row : FieldRow) (field : Field) → AreFieldsOf pets rows alarms signs of fields → IsFieldOf pets rows alarms signs row field → AreFieldsOf pets rows alarms signs (of ++ row ∷ []) (fields ++ field ∷ [])
fields-push pets rows alarms signs of fields row field are is = record {
  named = map-append (λ (f : Field). f.name) fields (field ∷ []) ∙ (λ i. are.named i ++ is.name i ∷ []) ∙ sym (map-append (λ (r : FieldRow). r.name) of (row ∷ []));
  roles = map-append (λ (f : Field). f.role) fields (field ∷ []) ∙ (λ i. are.roles i ++ is.role i ∷ []) ∙ sym (map-append (λ (r : FieldRow). r.role) of (row ∷ []));
  each = All-push (IsField (limits_of pets alarms signs) (row_roles rows)) fields field are.each is.is;
}

-- all of them
pub started_with-are : (pets : ℕ) (rows : List FieldRow) (alarms : List (List ℕ)) (signs : List EntrySign) (of : List FieldRow) (before : List Field) (more : List FieldRow) → list_all (λ row. is_field_name row.name) more ≡ true → All IsUnaskedRow more → AreFieldsOf pets rows alarms signs of before → IfOk (started_with (start_scope rows alarms signs) before more) (AreFieldsOf pets rows alarms signs (of ++ more))
started_with-are pets rows alarms signs of before [] named unasked are = rw (append-nil of) are
started_with-are pets rows alarms signs of before (row ∷ more) named unasked are =
    let parts = and_parts (is_field_name row.name) (list_all (λ row. is_field_name row.name) more) named in
    bind-fact (AreFieldsOf pets rows alarms signs (of ++ row ∷ more)) (IsFieldOf pets rows alarms signs row) (started_field (start_scope rows alarms signs) row) _ (started_field-is pets rows alarms signs row parts.0 (All-head IsUnaskedRow row more unasked)) (λ field is.
    subst (λ (rs : List FieldRow). IfOk (started_with (start_scope rows alarms signs) (before ++ field ∷ []) more) (AreFieldsOf pets rows alarms signs rs)) (append_assoc of (row ∷ []) more)
    (started_with-are pets rows alarms signs (of ++ row ∷ []) (before ++ field ∷ []) more parts.1 (All-tail IsUnaskedRow row more unasked) (fields-push pets rows alarms signs of before row field are is)))

-- as many fields as rows
pub started_with-length : (scope : Scope) (before : List Field) (rows : List FieldRow) → IfOk (started_with scope before rows) (λ fields. length fields ≡ length before + length rows)
started_with-length scope before [] = let same : length before ≡ length before + 0 = omega arith in same
started_with-length scope before (row ∷ rows) =
    bind-IfOk (λ (fields : List Field). length fields ≡ length before + length (row ∷ rows)) (started_field scope row) _ (λ field _.
    map-IfOk (λ (fields : List Field). length fields ≡ length (before ++ field ∷ []) + length rows) (λ (fields : List Field). length fields ≡ length before + length (row ∷ rows)) (started_with scope (before ++ field ∷ []) rows)
    (λ fields is. omega (arith, length-append before (field ∷ []))) (started_with-length scope (before ++ field ∷ []) rows))
