use Rattle.std.proofs.Common.{◌≡◌, drop}
use Rattle.cpl_comp.specs.FieldRows.{fields_with}
use Rattle.cpl_comp.proofs.field_rows.add_fields.Given as goal

-- reading on gives what reading all gives
abbrev pub invariant-loop-row : goal.invariant-loop-row
invariant-loop-row l = fields_with l.dict l.role l.fields (drop l.row-index l.rows) ≡ fields_with l.dict l.role l.initial.fields l.rows
