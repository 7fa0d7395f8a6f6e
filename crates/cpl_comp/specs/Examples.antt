-- The definitions of components, evaluated on small files.
use Rattle.std.specs.Prelude.{◌≡◌, ℕ, ℤ, pos, negsuc, false, true, List, [], ◌∷◌, ◌++◌, codes, map, Option, Some, None, Result, Ok, Err}
use Rattle.cpl_base.specs.ResultChain.{◌>>=◌}
use Rattle.cpl_config.specs.Items.{items_of, word_line}
use Rattle.cpl_config.specs.declared.entry.Entry.{Entry}
use Rattle.cpl_config.specs.declared.fault.ItemFault.{ItemFault}
use Rattle.cpl_dict.specs.Dict.{Dictionary}
use Rattle.cpl_formula.specs.Reads.{read_at}
use Rattle.cpl_formula.specs.declared.arguments.Argument.{Argument}
use Rattle.cpl_formula.specs.declared.arguments.Argument.TheVariants.{Number, Cell}
use Rattle.cpl_formula.specs.declared.formula.Formula.{Formula, roll-Formula}
use Rattle.cpl_formula.specs.declared.formula.Formula.TheOpen as tree
use Rattle.cpl_formula.specs.declared.formula.ReadName.TheVariants as names
use Rattle.cpl_text.specs.Lines.{lines_of}
use Rattle.cpl_comp.specs.Advertised.{Advertisement, advertised_component}
use Rattle.cpl_comp.specs.FieldRows.{no_demand}
use Rattle.cpl_comp.specs.Realised.{realised_component}
use Rattle.cpl_comp.specs.declared.component.Comp.{Comp}
use Rattle.cpl_comp.specs.declared.component.Halo.{Halo}
use Rattle.cpl_comp.specs.declared.component.Kind.TheVariants.{Model, Mediator}
use Rattle.cpl_comp.specs.declared.component.Role.TheVariants.{Var, Import, Export}
use Rattle.cpl_comp.specs.declared.component.Rule.{Rule}
use Rattle.cpl_comp.specs.declared.component.Rule.TheVariants.{Plain, Native}
use Rattle.cpl_comp.specs.declared.component.Wanted.TheVariants.{Current, Next}
use Rattle.cpl_comp.specs.declared.fault.CompFault.{CompFault}
use Rattle.cpl_comp.specs.declared.fault.CompFault.TheVariants as fault
use Rattle.cpl_comp.specs.declared.field_rows.FieldRow.{FieldRow}
use Rattle.cpl_comp.specs.declared.field_words.Demand.{Demand}

-- the entries of a file without faults
abbrev pub entries_of : Result (List Entry) ItemFault → List Entry
entries_of (Ok entries) = entries
entries_of (Err e) = []

-- the entries of a text
abbrev pub entries_in : List ℕ → List Entry
entries_in text = entries_of (items_of (map word_line (lines_of text)))

-- a dictionary of two names
abbrev pub two_names : Dictionary
two_names = record { names = (codes "heat", codes "W") ∷ (codes "temp", codes "K") ∷ []; calls = [] }

-- ---- what is advertised

-- what the component A advertises in a text
abbrev pub advertised_in : List ℕ → Result Advertisement CompFault
advertised_in text = advertised_component (entries_in text) (codes "A") two_names

-- a component A of these fields, a model on all PETs with one phase
abbrev pub model_of : List FieldRow → Advertisement
model_of fields = record { name = codes "A"; kind = Model; bounds = None; fields = fields; phases = codes "run" ∷ [] }

-- a variable, by its name, its line and the words of its rule
abbrev pub var_row : List ℕ → ℕ → List (List ℕ) → FieldRow
var_row name line rule = record { name = name; role = Var; standard = []; units = []; demand = no_demand; line = line; rule = rule }

-- what an import of heat asks
abbrev pub heat_row : ℕ → Demand → FieldRow
heat_row line demand = record { name = codes "h"; role = Import; standard = codes "heat"; units = codes "W"; demand = demand; line = line; rule = [] }

-- an export of a temperature
abbrev pub temp_row : ℕ → List (List ℕ) → FieldRow
temp_row line rule = record { name = codes "t"; role = Export; standard = codes "temp"; units = codes "K"; demand = no_demand; line = line; rule = rule }

-- a mediator on PETs 2 to 5, with an import and an export and two phases
abbrev pub a_mediator : Advertisement
a_mediator = record {
  name = codes "A";
  kind = Mediator;
  bounds = Some (2, 5);
  fields = heat_row 4 (record { wanted = Next; optional = true; at_init = false }) ∷ temp_row 7 (codes "h" ∷ codes "+" ∷ codes "1" ∷ []) ∷ [];
  phases = codes "prep" ∷ codes "mean" ∷ [];
}

-- its text
abbrev pub mediator_text : List ℕ
mediator_text =
    codes "A_kind: mediator\nA_petlist_bounds: 2 5\nA_import::\nh heat W optional check=next\n::\nA_export::\nt temp K = h + 1\n::\nA_phases: prep mean\n"

-- components that are advertised, and components with their faults
pub record AdvertisedExamples : Type 0 where
  pub nothing : advertised_in [] ≡ Ok (model_of [])
  pub variable : advertised_in (codes "A_vars::\nx = 2 * s\n::\n") ≡ Ok (model_of (var_row (codes "x") 2 (codes "2" ∷ codes "*" ∷ codes "s" ∷ []) ∷ []))
  pub mediator : advertised_in mediator_text ≡ Ok a_mediator
  pub plain_import : advertised_in (codes "A_import::\nh heat W init\n::\n") ≡ Ok (model_of (heat_row 2 (record { wanted = Current; optional = false; at_init = true }) ∷ []))
  pub kind : advertised_in (codes "A_kind: Model\n") ≡ Err (fault.BadValue 1)
  pub kind_of_two_words : advertised_in (codes "A_kind: model model\n") ≡ Err (fault.BadValue 1)
  pub bounds_of_one : advertised_in (codes "A_petlist_bounds: 2\n") ≡ Err (fault.BadValue 1)
  pub bounds_past_the_last : advertised_in (codes "A_petlist_bounds: 2 64\n") ≡ Err (fault.PetOutOfRange 1)
  pub bounds_turned : advertised_in (codes "A_petlist_bounds: 3 2\nA_vars::\nx\n::\n") ≡ Err (fault.PetOutOfRange 1)
  pub reserved_name : advertised_in (codes "A_vars::\nnx = 0\n::\n") ≡ Err (fault.BadValue 2)
  pub alarm_name : advertised_in (codes "A_vars::\nring_a = 0\n::\n") ≡ Err (fault.BadValue 2)
  pub no_rule : advertised_in (codes "A_vars::\nx =\n::\n") ≡ Err (fault.BadValue 2)
  pub twice_across_tables : advertised_in (codes "A_vars::\nt = 0\n::\nA_export::\nt temp K = 0\n::\n") ≡ Err (fault.FieldTwice 5)
  pub standard_unknown : advertised_in (codes "A_import::\nh snow W\n::\n") ≡ Err (fault.StandardUnknown 2)
  pub units_differ : advertised_in (codes "A_import::\nh heat K\n::\n") ≡ Err (fault.UnitsDiffer 2)
  pub option_twice : advertised_in (codes "A_import::\nh heat W init init\n::\n") ≡ Err (fault.BadValue 2)
  pub two_checks : advertised_in (codes "A_import::\nh heat W check=none check=next\n::\n") ≡ Err (fault.BadValue 2)
  pub row_after_row : advertised_in (codes "A_import::\nh heat K\nh heat W\nx\n::\n") ≡ Err (fault.UnitsDiffer 2)
  pub phase_twice : advertised_in (codes "A_phases: a b a\n") ≡ Err (fault.PhaseTwice 1)
  pub phase_name_first : advertised_in (codes "A_phases: a a b-c\n") ≡ Err (fault.BadValue 1)
  pub no_phase : advertised_in (codes "A_phases:\n") ≡ Err (fault.BadValue 1)

-- ---- what is realised

-- the component A of a text, of two PETs in all, over the alarm `noon` and an entry `relax` of two inputs
abbrev pub realised_in : List ℕ → Result Comp CompFault
realised_in text =
    advertised_in text >>= (λ ad.
    realised_component (entries_in text) ad 2 (codes "noon" ∷ []) (record { label = codes "relax"; inputs = 2 } ∷ []))

-- a part of a component
abbrev pub part_of : {B : Type 0} → (Comp → B) → List ℕ → Result B CompFault
part_of part text = realised_in text >>= (λ comp. Ok (part comp))

-- the start rules of fields
abbrev pub starts_in : Comp → List (Option Rule)
starts_in comp = map (λ field. field.start) comp.fields

-- what the phases write by their rules
abbrev pub rules_in_phases : Comp → List (List (ℕ × Rule))
rules_in_phases comp = map (λ phase. map (λ row. (row.field, row.rule)) phase.sets) comp.phases

-- the neighbours and the fields beside the cell, of each phase
abbrev pub halos_in : Comp → List Halo
halos_in comp = map (λ phase. phase.halo) comp.phases

-- a number of units, and the first input
abbrev pub units : ℕ → Formula
units n = roll-Formula (tree.Number (pos n))

abbrev pub first_input : Formula
first_input = roll-Formula (tree.Input 0)

-- a rule that is one number of millionths
abbrev pub number_rule : ℕ → Rule
number_rule n = Plain (record { tree = units n; reads = [] })

-- a text of one variable on four cells, with these rows of its phase
abbrev pub with_rows : List ℕ → List ℕ
with_rows rows = codes "A_grid: 4 1\nA_vars::\nx = 0\n::\nA_phase_run::\n" ++ rows ++ codes "::\n"

-- the same of a mediator
abbrev pub mediator_with_rows : List ℕ → List ℕ
mediator_with_rows rows = codes "A_kind: mediator\n" ++ with_rows rows

-- the field at its neighbours
abbrev pub x_at : ℤ → Argument
x_at dx = Cell (read_at (names.Field 0) dx (pos 0))

-- parts of components that are realised, and components with their faults
pub record RealisedExamples : Type 0 where
  pub starts : part_of starts_in (with_rows []) ≡ Ok (Some (number_rule 0) ∷ [])
  pub start_over_import : part_of starts_in (codes "A_grid: 2 1\nA_import::\nh heat W\n::\nA_export::\nt temp K = h\n::\nA_phase_run::\n::\n")
      ≡ Ok (None ∷ Some (Plain (record { tree = first_input; reads = read_at (names.Field 0) (pos 0) (pos 0) ∷ [] })) ∷ [])
  pub formula : part_of rules_in_phases (with_rows (codes "x = x[1,0]\n"))
      ≡ Ok (((0, Plain (record { tree = first_input; reads = read_at (names.Field 0) (pos 1) (pos 0) ∷ [] })) ∷ []) ∷ [])
  pub call : part_of rules_in_phases (with_rows (codes "x = call relax x[-1,0] 2\n")) ≡ Ok (((0, Native 0 (x_at (negsuc 0) ∷ Number (pos 2000000) ∷ [])) ∷ []) ∷ [])
  pub halo : part_of halos_in (with_rows (codes "x = x[1,0] + x[-2,0] + x\n")) ≡ Ok (record { offsets = (negsuc 1, pos 0) ∷ (pos 1, pos 0) ∷ []; fields = 0 ∷ [] } ∷ [])
  pub halo_of_call : part_of halos_in (with_rows (codes "x = call relax x[0,2] noon\n")) ≡ Err (fault.NameUnknown 6)
  pub no_halo : part_of halos_in (with_rows (codes "x = x + ring_noon\n")) ≡ Ok (record { offsets = []; fields = [] } ∷ [])
  pub no_grid : realised_in (codes "A_vars::\nx = y\n::\n") ≡ Err fault.NoGrid
  pub grid_of_no_rows : realised_in (codes "A_grid: 4 0\n") ≡ Err (fault.BadValue 1)
  pub grid_of_no_ring : realised_in (codes "A_grid: 4 1 round\n") ≡ Err (fault.BadValue 1)
  pub many_cells : realised_in (codes "A_grid: 1024 1025\nA_decomp: 0 1\n") ≡ Err (fault.TooManyCells 1)
  pub blocks : realised_in (codes "A_grid: 4 1\nA_decomp: 3 1\n") ≡ Err (fault.BlocksMismatch 3 2)
  pub substep : realised_in (codes "A_grid: 4 1\nA_substep: 0\n") ≡ Err (fault.BadValue 2)
  pub start_over_variable : realised_in (codes "A_grid: 2 1\nA_vars::\nx = 0\ny = x\n::\n") ≡ Err (fault.NameUnknown 4)
  pub no_table : realised_in (codes "A_grid: 4 1\n") ≡ Err (fault.MissingLabel (codes "A_phase_run"))
  pub assigned_twice : realised_in (with_rows (codes "x = 1\nx = 2\n")) ≡ Err (fault.BadValue 7)
  pub no_such_field : realised_in (with_rows (codes "9 = 3 +\n")) ≡ Err (fault.NameUnknown 6)
  pub range_turned : realised_in (with_rows (codes "check nope 1 0\n")) ≡ Err (fault.BadValue 6)
  pub early_end : realised_in (with_rows (codes "x = 3 +\n")) ≡ Err (fault.Syntax 6 3)
  pub call_alone : realised_in (with_rows (codes "x = call relax\n")) ≡ Err (fault.Syntax 6 10)
  pub argument : realised_in (with_rows (codes "x = call relax 1 x+1\n")) ≡ Err (fault.Syntax 6 13)
  pub entry_unknown : realised_in (with_rows (codes "x = call mix 1 2\n")) ≡ Err (fault.EntryUnknown 6)
  pub inputs_differ : realised_in (with_rows (codes "x = call relax 1\n")) ≡ Err (fault.InputsDiffer 6)
  pub average_in_model : realised_in (with_rows (codes "average x\n")) ≡ Err (fault.BadValue 6)
  pub odd_factors : realised_in (mediator_with_rows (codes "merge x = x x x\n")) ≡ Err (fault.BadValue 7)
  pub averaged_and_assigned : realised_in (mediator_with_rows (codes "add x = 1\naverage x\nx = 1\n")) ≡ Err (fault.BadValue 9)
