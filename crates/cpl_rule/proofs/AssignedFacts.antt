-- What a rule leaves, by what a sweep or an entry leaves.
use Rattle.std.proofs.Common.{◌≡◌, ℕ, List, ℤ, pos, map, length, refl, sym, ap, subst, ◌∙◌}
use Rattle.std.specs.List.{All}
use Rattle.std.specs.Option.{option_map, option_map_or}
use Rattle.std.specs.Prelude.{Option, Some, None, slice_get}
use Rattle.std.proofs.lemmas.Option.{none-some, slice_get-map}
use Rattle.cpl_comp.proofs.HeldFacts.{from-some}
use Rattle.cpl_block.specs.Frames.{cell_at}
use Rattle.cpl_block.specs.Laws.{IsFraming}
use Rattle.cpl_comp.specs.Readings.{Reading, argument_value, entry_answer, rule_value}
use Rattle.cpl_comp.specs.declared.component.Rule.{Rule}
use Rattle.cpl_comp.specs.declared.component.Rule.TheVariants.{Plain, Native}
use Rattle.cpl_entry.specs.Entries.{NativeEntry, value_at as value_of_entry}
use Rattle.cpl_formula.specs.Tree.{value_of}
use Rattle.cpl_formula.specs.declared.arguments.Argument.{Argument}
use Rattle.cpl_formula.specs.declared.formula.Parsed.{Parsed}
use Rattle.cpl_sweep.specs.Places.{inputs_at, value_at}
use Rattle.cpl_sweep.specs.declared.place.Place.{Place}
use Rattle.cpl_rule.specs.Assigned.{IsAssigned, IsRuleOn, answers_of}
use Rattle.cpl_rule.specs.Inputs.{AreShown, HoldReading, IsHaloed, arguments_of, places_of_rule}
use Rattle.cpl_rule.specs.Moments.{IsAt}
use Rattle.cpl_rule.specs.Swept.{IsSwept}
use Rattle.cpl_rule.specs.declared.scene.Scene.{Scene}
use Rattle.cpl_rule.proofs.InputsFacts.{values-of-reads}
use Rattle.cpl_rule.proofs.ShownFacts.{shown-all}
use Rattle.cpl_rule.proofs.SweptFacts.{own-swept}

-- ---- entries

-- what an entry answers, where it has a value
answer-is : (found : Option NativeEntry) (inputs : List ℤ) (result : ℤ) → option_map (λ entry. value_of inputs entry.formula) found ≡ Some result → option_map_or (λ (answer : List ℤ → ℤ). answer inputs) (option_map (λ (entry : NativeEntry) (inputs : List ℤ). value_of inputs entry.formula) found) (pos 0) ≡ result
answer-is (Some entry) inputs result is = from-some (λ (z : ℤ). value_of inputs entry.formula ≡ z) (value_of inputs entry.formula) result is refl
answer-is None inputs result is = absurd (none-some result is)

pub answer-of : (book : List NativeEntry) (entry : ℕ) (inputs : List ℤ) (result : ℤ) → value_of_entry book entry inputs ≡ Some result → entry_answer (answers_of book) entry inputs ≡ result
answer-of book entry inputs result is =
    ap (λ found. option_map_or (λ (answer : List ℤ → ℤ). answer inputs) found (pos 0)) (slice_get-map {B = List ℤ → ℤ} (λ (entry : NativeEntry) (inputs : List ℤ). value_of inputs entry.formula) book entry)
    ∙ answer-is (slice_get book entry) inputs result is

-- ---- rules

module _ (scene : Scene) (book : List NativeEntry) (rule : Rule) (fields : List (List ℤ)) (out : List ℤ) (places : List Place) (laws : IsFraming scene.frame) (on : IsRuleOn scene book rule) (placed : places ≡ places_of_rule scene.frame scene.fields scene.moment rule) where
  -- what the places show
  shown : (halo : List ℕ) (reading : Reading) → IsAt scene.moment scene.frame.grid reading → All (IsHaloed halo) (arguments_of rule) → HoldReading scene.frame scene.fields halo reading fields → AreShown scene.frame reading fields (arguments_of rule) places
  shown halo reading at haloed held =
      let P : List Place → Type 0 = λ ps. AreShown scene.frame reading fields (arguments_of rule) ps in
      subst P (sym placed) (shown-all scene.frame scene.fields halo scene.moment reading fields laws at held (length scene.moment.times.alarms.now) (arguments_of rule) on.near haloed)

  pub assigned-plain : (parsed : Parsed) → rule ≡ Plain parsed → IsSwept scene.frame (value_at places fields parsed.tree) out → IsAssigned scene book rule fields out
  assigned-plain parsed is swept = record {
    places = swept.places;
    values = swept.values;
    own = λ halo reading at entries haloed held.
        own-swept scene.frame (value_at places fields parsed.tree) (rule_value reading rule) out laws swept (λ a b spot.
        let s = cell_at scene.frame a b in
        ap (λ inputs. value_of inputs parsed.tree) (shown halo reading at haloed held a b spot ∙ ap (λ r. map (argument_value reading s) (arguments_of r)) is ∙ values-of-reads reading s parsed.reads)
        ∙ ap (λ r. rule_value reading r s) (sym is));
  }

  pub assigned-native : (entry : ℕ) (arguments : List Argument) → rule ≡ Native entry arguments → IsSwept scene.frame (λ cell. entry_answer (answers_of book) entry (inputs_at places fields cell)) out → IsAssigned scene book rule fields out
  assigned-native entry arguments is swept = record {
    places = swept.places;
    values = swept.values;
    own = λ halo reading at entries haloed held.
        own-swept scene.frame (λ cell. entry_answer (answers_of book) entry (inputs_at places fields cell)) (rule_value reading rule) out laws swept (λ a b spot.
        let s = cell_at scene.frame a b in
        ap (λ inputs. entry_answer (answers_of book) entry inputs) (shown halo reading at haloed held a b spot ∙ ap (λ r. map (argument_value reading s) (arguments_of r)) is)
        ∙ ap (λ answers. entry_answer answers entry (map (argument_value reading s) arguments)) (sym entries)
        ∙ ap (λ r. rule_value reading r s) (sym is));
  }
