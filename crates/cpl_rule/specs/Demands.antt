-- What the rules of a component ask of the ring around a block, and of the room in which they are worked out.
use Rattle.std.specs.Prelude.{◌≡◌, ℕ, ◌-◌, ◌^◌, ◌<◌, ◌≤◌, length, min, unsigned_abs}
use Rattle.std.specs.List.{All}
use Rattle.std.specs.Option.{ForSome}
use Rattle.cpl_comp.specs.Components.{rules_of}
use Rattle.cpl_comp.specs.declared.component.Field.{Field}
use Rattle.cpl_comp.specs.declared.component.Phase.{Phase}
use Rattle.cpl_comp.specs.declared.component.Comp.{Comp}
use Rattle.cpl_comp.specs.declared.component.Rule.{Rule}
use Rattle.cpl_comp.specs.declared.component.Rule.TheVariants.{Plain}
use Rattle.cpl_formula.specs.declared.arguments.Argument.{Argument}
use Rattle.cpl_formula.specs.declared.arguments.Argument.TheVariants.{Number, Cell}
use Rattle.cpl_formula.specs.declared.formula.Parsed.{Parsed}
use Rattle.cpl_formula.specs.declared.formula.Read.{Read}
use Rattle.cpl_sweep.specs.Rows.{scratch_rows}
use Rattle.cpl_rule.specs.Inputs.{arguments_of}
use Rattle.cpl_rule.specs.declared.demand.Demand.{Demand}

-- a read that leads no farther than so many columns and rows
pub record IsReadWithin (demand : Demand) (read : Read) : Type 0 where
  pub across : unsigned_abs read.dx ≤ demand.rx
  pub down : unsigned_abs read.dy ≤ demand.ry

-- an argument that does so
abbrev pub IsArgumentWithin : Demand → Argument → Type 0
IsArgumentWithin demand (Number number) = Unit {0}
IsArgumentWithin demand (Cell read) = IsReadWithin demand read

-- the greatest number of strips that is told apart from all greater ones
abbrev pub most_strips : ℕ
most_strips = 2 ^ 64 - 1

-- A demand that covers a rule, as far as strips are counted.
pub record IsCovered (demand : Demand) (rule : Rule) : Type 0 where
  pub reads : All (IsArgumentWithin demand) (arguments_of rule)
  pub inputs : length (arguments_of rule) ≤ demand.inputs
  pub strips : (parsed : Parsed) → rule ≡ Plain parsed → min (scratch_rows parsed.tree) most_strips ≤ demand.strips

-- A demand that covers the start rule of a field, if it has one.
abbrev pub IsStartCovered : Demand → Field → Type 0
IsStartCovered demand field = ForSome field.start (IsCovered demand)

-- A demand that covers the rules of a phase.
abbrev pub IsPhaseCovered : Demand → Phase → Type 0
IsPhaseCovered demand phase = All (IsCovered demand) (rules_of phase)

-- A demand that covers all rules of a component.
pub record IsDemandOf (comp : Comp) (demand : Demand) : Type 0 where
  pub starts : All (IsStartCovered demand) comp.fields
  pub phases : All (IsPhaseCovered demand) comp.phases

-- A demand for so few strips that there may be memory for them.
abbrev pub CanBeMet : Demand → Type 0
CanBeMet demand = demand.strips < 2 ^ 32

-- a demand that is as great or greater
pub record IsWider (less more : Demand) : Type 0 where
  pub rx : less.rx ≤ more.rx
  pub ry : less.ry ≤ more.ry
  pub inputs : less.inputs ≤ more.inputs
  pub strips : less.strips ≤ more.strips
