-- What a phase does by the rows of its table, one after another.
use Rattle.std.specs.Prelude.{ℕ, Bool, true, false, not, ◌&&◌, ◌||◌, ◌==◌, nat_lt, List, [], ◌∷◌, ◌++◌, length, Option, Some, None, option_and_then, Result, Ok, Err}
use Rattle.std.specs.List.{list_any, slice_get}
use Rattle.std.specs.Option.{ok_or}
use Rattle.cpl_base.specs.ResultChain.{◌>>=◌, ok_if}
use Rattle.cpl_base.specs.Words.{place_of}
use Rattle.cpl_config.specs.declared.row.Row.{Row}
use Rattle.cpl_comp.specs.RowForms.{RowForm, assign, check, add, average, merge, no_form, row_form}
use Rattle.cpl_comp.specs.Rules.{Scope, rule_of}
use Rattle.cpl_comp.specs.declared.component.Kind.{Kind}
use Rattle.cpl_comp.specs.declared.component.Kind.TheVariants.{Model, Mediator}
use Rattle.cpl_comp.specs.declared.component.MergeRow.{MergeRow}
use Rattle.cpl_comp.specs.declared.component.RangeRow.{RangeRow}
use Rattle.cpl_comp.specs.declared.component.Role.{Role}
use Rattle.cpl_comp.specs.declared.component.Role.TheVariants.{Var, Import, Export}
use Rattle.cpl_comp.specs.declared.component.SetRow.{SetRow}
use Rattle.cpl_comp.specs.declared.fault.CompFault.{CompFault}
use Rattle.cpl_comp.specs.declared.fault.CompFault.TheVariants.{BadValue, NameUnknown}

-- What the rows of phases are read over: the component's kind, the roles of its fields, and what a rule may name.
pub record PhaseScope : Type 0 where
  pub kind : Kind
  pub roles : List Role
  pub rules : Scope

-- What the rows of a phase say, each kind in the order of the table.
pub record PhaseRows : Type 0 where
  pub sets : List SetRow
  pub merges : List MergeRow
  pub adds : List SetRow
  pub averages : List ℕ
  pub ranges : List RangeRow

-- no rows
abbrev pub no_rows : PhaseRows
no_rows = record { sets = []; merges = []; adds = []; averages = []; ranges = [] }

-- ---- the rules on a row

-- whether a component is a mediator
abbrev pub is_mediator : Kind → Bool
is_mediator Model = false
is_mediator Mediator = true

-- whether a component may give such a field a value: it is no import
abbrev pub is_own : Option Role → Bool
is_own None = false
is_own (Some Var) = true
is_own (Some Import) = false
is_own (Some Export) = true

-- whether an assignment, a merge or an average gives a field its new value
abbrev pub is_written : PhaseRows → ℕ → Bool
is_written rows field =
    list_any (λ row. row.field == field) rows.sets || list_any (λ row. row.field == field) rows.merges || list_any (λ other. other == field) rows.averages

-- whether a value is kept for a field
abbrev pub is_added : PhaseRows → ℕ → Bool
is_added rows field = list_any (λ row. row.field == field) rows.adds

-- a field, if it is there, is no import and has no row of this kind yet
abbrev pub may_stand : PhaseScope → (ℕ → Bool) → Option ℕ → Bool
may_stand scope stands None = true
may_stand scope stands (Some field) = is_own (slice_get scope.roles field) && not (stands field)

-- the place of a field of this name
abbrev pub field_place : PhaseScope → List ℕ → Option ℕ
field_place scope name = place_of scope.rules.fields name

-- ---- the rows

-- a product, if both its factors are fields
abbrev pub term_of : Option ℕ → Option ℕ → Option (ℕ × ℕ)
term_of first second = option_and_then (λ a. option_and_then (λ b. Some (a, b)) second) first

-- these products and those of further words two by two, if all are fields
abbrev pub terms_with : PhaseScope → List (ℕ × ℕ) → List (List ℕ) → Option (List (ℕ × ℕ))
terms_with scope before [] = Some before
terms_with scope before (word ∷ []) = None
terms_with scope before (first ∷ second ∷ words) =
    option_and_then (λ term. terms_with scope (before ++ term ∷ []) words) (term_of (field_place scope first) (field_place scope second))

-- a field takes a rule's value
abbrev pub with_set : PhaseRows → SetRow → PhaseRows
with_set rows row = record rows { sets = rows.sets ++ row ∷ [] }

-- a field takes a sum of products
abbrev pub with_merge : PhaseRows → MergeRow → PhaseRows
with_merge rows row = record rows { merges = rows.merges ++ row ∷ [] }

-- a rule's value is kept for a field
abbrev pub with_add : PhaseRows → SetRow → PhaseRows
with_add rows row = record rows { adds = rows.adds ++ row ∷ [] }

-- a field takes the mean of what was kept for it
abbrev pub with_average : PhaseRows → ℕ → PhaseRows
with_average rows field = record rows { averages = rows.averages ++ field ∷ [] }

-- a field's values must lie in a range
abbrev pub with_range : PhaseRows → RangeRow → PhaseRows
with_range rows row = record rows { ranges = rows.ranges ++ row ∷ [] }

-- the field that a row in this line is about, where the rules on such rows let it stand
abbrev pub row_field : ℕ → Bool → Option ℕ → Result ℕ CompFault
row_field line stands place = ok_if stands (BadValue line) >>= (λ _. ok_or place (NameUnknown line))

-- the rows with one more of this form, in this line: first the rules on the row, then its names, then its rule
abbrev pub after_form : PhaseScope → PhaseRows → ℕ → RowForm → Result PhaseRows CompFault
after_form scope rows line (assign name words) =
    row_field line (may_stand scope (is_written rows) (field_place scope name)) (field_place scope name) >>= (λ field.
    rule_of scope.rules line words >>= (λ rule.
    Ok (with_set rows (record { field = field; rule = rule }))))
after_form scope rows line (check name low high) =
    row_field line (nat_lt (length rows.ranges) 8) (field_place scope name) >>= (λ field.
    Ok (with_range rows (record { field = field; low = low; high = high })))
after_form scope rows line (add name words) =
    row_field line (is_mediator scope.kind && may_stand scope (is_added rows) (field_place scope name)) (field_place scope name) >>= (λ field.
    rule_of scope.rules line words >>= (λ rule.
    Ok (with_add rows (record { field = field; rule = rule }))))
after_form scope rows line (average name) =
    row_field line (is_mediator scope.kind && nat_lt (length rows.averages) 64 && may_stand scope (is_written rows) (field_place scope name)) (field_place scope name) >>= (λ field.
    Ok (with_average rows field))
after_form scope rows line (merge name words) =
    row_field line (is_mediator scope.kind && may_stand scope (is_written rows) (field_place scope name)) (field_place scope name) >>= (λ field.
    ok_or (terms_with scope [] words) (NameUnknown line) >>= (λ terms.
    Ok (with_merge rows (record { field = field; terms = terms }))))
after_form scope rows line no_form = Err (BadValue line)

-- the rows with one more
abbrev pub after_row : PhaseScope → PhaseRows → Row → Result PhaseRows CompFault
after_row scope rows row = after_form scope rows row.line (row_form row.words)

-- the rows with further ones, or the first fault
abbrev pub after_rows : PhaseScope → PhaseRows → List Row → Result PhaseRows CompFault
after_rows scope rows [] = Ok rows
after_rows scope rows (row ∷ more) = after_row scope rows row >>= (λ next. after_rows scope next more)
