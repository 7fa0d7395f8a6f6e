-- The code's own: what its types stand for.
use Rattle.std.specs.Prelude.{List, map, Option, option_map}
use Rattle.std.specs.Borrow.{Bor}
use Rattle.cpl_grid.specs.declared.grid.Grid.{Grid}
use Rattle.cpl_comp.specs.FieldRows.{FieldParts}
use Rattle.cpl_comp.specs.PhaseRows.{PhaseScope}
use Rattle.cpl_comp.specs.RowForms.{RowForm, assign, check, add, average, merge, no_form}
use Rattle.cpl_comp.specs.Rules.{Scope}
use Rattle.cpl_comp.specs.declared.component.Rule.{Rule}
use Rattle.cpl_comp.specs.declared.field_words.FieldWords.{FieldWords}
use Rattle.cpl_comp.specs.declared.grids.Shape.{Shape}
use Rattle.cpl_comp.specs.declared.row_forms.RowForm.TheVariants as forms
use Rattle.cpl_comp.specs.declared.row_forms.RowForm as row_forms
use Rattle.cpl_comp.specs.declared.scope.PhaseScope as phase_scopes
use Rattle.cpl_comp.specs.declared.scope.Scope as scopes

-- what a row says of a field
abbrev pub words_view : FieldWords → FieldParts
words_view words = record {
  name = words.name.now;
  standard = words.standard.now;
  units = words.units.now;
  demand = words.demand;
  rule = words.rule.now;
}

-- the same, if the row has the form
abbrev pub parts_view : Option FieldWords → Option FieldParts
parts_view words = option_map words_view words

-- columns and rows as a grid, which may have too many cells
abbrev pub shape_view : Shape → Grid
shape_view shape = record { nx = shape.columns; ny = shape.rows; periodic = shape.periodic }

-- what a rule may name
abbrev pub scope_view : scopes.Scope → Scope
scope_view scope = record { fields = scope.fields.now; alarms = scope.alarms.now; signs = scope.signs.now }

-- what the rows of phases are read over
abbrev pub phase_scope_view : phase_scopes.PhaseScope → PhaseScope
phase_scope_view scope = record { kind = scope.kind; roles = scope.roles.now; rules = scope_view scope.rules }

-- the form of a row
abbrev pub form_view : row_forms.RowForm → RowForm
form_view (forms.Assign field rule) = assign field.now rule.now
form_view (forms.Check field low high) = check field.now low high
form_view (forms.Add field rule) = add field.now rule.now
form_view (forms.Average field) = average field.now
form_view (forms.Merge field factors) = merge field.now factors.now
form_view forms.NoForm = no_form

-- the rules that references lead to
abbrev pub rules_in : List (Bor Rule) → List Rule
rules_in rules = map (λ rule. rule.now) rules
