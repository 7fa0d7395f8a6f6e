-- What a rule leaves in a field of a block.
use Rattle.std.specs.Prelude.{◌≡◌, ℕ, ◌*◌, ◌≤◌, ℤ, List, length, map, Some, IsTrue}
use Rattle.std.specs.List.{All}
use Rattle.cpl_base.specs.Numbers.{IsValue}
use Rattle.cpl_block.specs.Frames.{IsFrame, IsOwn, places_in}
use Rattle.cpl_comp.specs.Readings.{EntryAnswers, Reading, rule_value}
use Rattle.cpl_comp.specs.declared.component.Rule.{Rule}
use Rattle.cpl_comp.specs.declared.component.Rule.TheVariants.{Plain, Native}
use Rattle.cpl_entry.specs.Entries.{NativeEntry, inputs_at}
use Rattle.cpl_formula.specs.Tree.{is_over, value_of}
use Rattle.cpl_formula.specs.declared.arguments.Argument.{Argument}
use Rattle.cpl_formula.specs.declared.formula.Parsed.{Parsed}
use Rattle.cpl_sweep.specs.Rows.{scratch_rows}
use Rattle.cpl_rule.specs.Inputs.{HoldReading, IsArgumentNear, IsHaloed, arguments_of}
use Rattle.cpl_rule.specs.Moments.{IsAt, IsMoment}
use Rattle.cpl_rule.specs.declared.room.Room.{Room}
use Rattle.cpl_rule.specs.declared.scene.Scene.{Scene}

-- what native entries answer: the values of their formulas
abbrev pub answers_of : List NativeEntry → EntryAnswers
answers_of book = map (λ entry inputs. value_of inputs entry.formula) book

-- an entry of a book takes so many inputs
abbrev pub TakesInputs : List NativeEntry → ℕ → ℕ → Type 0
TakesInputs book entry count = inputs_at book entry ≡ Some count

-- A block, the fields of a component on it, and a moment.
pub record IsScene (scene : Scene) : Type 0 where
  pub frame : IsFrame scene.frame
  pub fields : scene.fields ≤ 64
  pub moment : IsMoment scene.moment

-- A rule that can be carried out: it reads no farther than the ring, its formula is over what it reads, and its entry takes
-- as many inputs as it is given.
pub record IsRuleOn (scene : Scene) (book : List NativeEntry) (rule : Rule) : Type 0 where
  pub near : All (IsArgumentNear scene.frame scene.fields (length scene.moment.times.alarms.now)) (arguments_of rule)
  pub formula : (parsed : Parsed) → rule ≡ Plain parsed → IsTrue (is_over (length parsed.reads) parsed.tree)
  pub call : (entry : ℕ) (arguments : List Argument) → rule ≡ Native entry arguments → TakesInputs book entry (length arguments)

-- There is room for a rule's inputs, and for the strips in which its formula is worked out.
pub record HasRoom (room : Room) (rule : Rule) : Type 0 where
  pub places : length (arguments_of rule) ≤ length room.places
  pub inputs : length (arguments_of rule) ≤ length room.inputs
  pub scratch : (parsed : Parsed) → rule ≡ Plain parsed → 128 * scratch_rows parsed.tree ≤ length room.scratch

-- room is as great as before
pub record IsAsRoomy (old new : Room) : Type 0 where
  pub places : length new.places ≡ length old.places
  pub inputs : length new.inputs ≡ length old.inputs
  pub scratch : length new.scratch ≡ length old.scratch

-- A field has the values of a rule at the cells of a block, for whatever reading the component's fields hold.
pub record IsAssigned (scene : Scene) (book : List NativeEntry) (rule : Rule) (fields : List (List ℤ)) (field : List ℤ) : Type 0 where
  pub places : length field ≡ places_in scene.frame
  pub values : All IsValue field
  pub own : (halo : List ℕ) (reading : Reading)
      → IsAt scene.moment scene.frame.grid reading → reading.entries ≡ answers_of book
      → All (IsHaloed halo) (arguments_of rule) → HoldReading scene.frame scene.fields halo reading fields
      → IsOwn scene.frame (rule_value reading rule) field
