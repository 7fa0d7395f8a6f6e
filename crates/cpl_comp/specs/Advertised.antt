-- What a component advertises: its kind, its PETs, its fields and the names of its phases.
use Rattle.std.specs.Prelude.{ℕ, ◌&&◌, nat_le, List, [], ◌∷◌, length, codes, Option, Some, None, Result, Ok}
use Rattle.std.specs.List.{list_all}
use Rattle.cpl_base.specs.ResultChain.{◌>>=◌, ok_if}
use Rattle.cpl_base.specs.Words.{are_distinct, is_name, is_some_of}
use Rattle.cpl_config.specs.declared.entry.Entry.{Entry}
use Rattle.cpl_config.specs.declared.row.Row.{Row}
use Rattle.cpl_dict.specs.Dict.{Dictionary}
use Rattle.cpl_comp.specs.FieldRows.{fields_in}
use Rattle.cpl_comp.specs.Labels.{own_values}
use Rattle.cpl_comp.specs.Pets.{bounds_in, kind_in}
use Rattle.cpl_comp.specs.declared.component.Kind.{Kind}
use Rattle.cpl_comp.specs.declared.fault.CompFault.{CompFault}
use Rattle.cpl_comp.specs.declared.fault.CompFault.TheVariants.{BadValue, PhaseTwice, TooManyPhases}
use Rattle.cpl_comp.specs.declared.field_rows.FieldRow.{FieldRow}

-- A component as far as others need to know it: the bounds of its PETs, where they are given, its fields with the
-- words of their start rules, and the names of its phases.
pub record Advertisement : Type 0 where
  pub name : List ℕ
  pub kind : Kind
  pub bounds : Option (ℕ × ℕ)
  pub fields : List FieldRow
  pub phases : List (List ℕ)

-- at most 16 phases
abbrev pub few_phases : ℕ → Result (Unit {0}) CompFault
few_phases count = ok_if (nat_le count 16) (TooManyPhases count)

-- the names of a component's phases: one of the name `run`, where none are given
abbrev pub phase_names_in : Option Row → Result (List (List ℕ)) CompFault
phase_names_in None = Ok (codes "run" ∷ [])
phase_names_in (Some row) =
    ok_if (is_some_of row.words && list_all is_name row.words) (BadValue row.line) >>= (λ _.
    ok_if (are_distinct row.words) (PhaseTwice row.line) >>= (λ _.
    few_phases (length row.words) >>= (λ _.
    Ok row.words)))

-- the component of a name, as a file advertises it, or the first fault
unfoldable pub advertised_component : List Entry → List ℕ → Dictionary → Result Advertisement CompFault
advertised_component entries name dict =
    kind_in (own_values entries name (codes "_kind")) >>= (λ kind.
    bounds_in (own_values entries name (codes "_petlist_bounds")) >>= (λ bounds.
    fields_in dict entries name >>= (λ fields.
    phase_names_in (own_values entries name (codes "_phases")) >>= (λ phases.
    Ok (record { name = name; kind = kind; bounds = bounds; fields = fields; phases = phases })))))
