-- What an accepted component's phases and start rules can be carried out with.
use Rattle.std.proofs.Common.{◌≡◌, ◌≢◌, ℕ, suc, ◌<◌, true, List, [], ◌∷◌, ◌++◌, length, map, get_or, Some, sym, ap, subst, ◌∙◌, arith, inl, inr}
use Rattle.std.proofs.lemmas.Bool.{and_parts, cases_lt, false≢true}
use Rattle.std.proofs.lemmas.List.{append_assoc, length-map}
use Rattle.std.proofs.lemmas.List.Elements.{All-cons, All-nil}
use Rattle.std.proofs.lemmas.Option.{get_or_from_slice_get, slice_get_past, slice_get_within}
use Rattle.std.specs.List.{All, AllPairs, list_all, slice_get}
use Rattle.cpl_comp.proofs.HeldFacts.{All-left, All-right, All-unmap}
use Rattle.cpl_comp.specs.Components.{IsComponent, IsMerge, IsPhase, IsRule, Limits, added_fields, roles_of, rules_of, written_fields}
use Rattle.cpl_comp.specs.Halos.{halo_of}
use Rattle.cpl_comp.specs.PhaseRows.{is_own}
use Rattle.cpl_comp.specs.declared.component.Comp.{Comp}
use Rattle.cpl_comp.specs.declared.component.Field.{Field}
use Rattle.cpl_comp.specs.declared.component.Halo.{Halo}
use Rattle.cpl_comp.specs.declared.component.MergeRow.{MergeRow}
use Rattle.cpl_comp.specs.declared.component.Phase.{Phase}
use Rattle.cpl_comp.specs.declared.component.Role.{Role}
use Rattle.cpl_comp.specs.declared.component.Rule.{Rule}
use Rattle.cpl_comp.specs.declared.component.SetRow.{SetRow}
use Rattle.cpl_entry.specs.Entries.{NativeEntry}
use Rattle.cpl_rule.proofs.DemandLaws.{halo-below, rule-haloed, rule-on, rule-roomy}
use Rattle.cpl_rule.specs.Assigned.{HasRoom, IsRuleOn}
use Rattle.cpl_rule.specs.Demands.{CanBeMet, IsCovered, IsPhaseCovered}
use Rattle.cpl_rule.specs.Inputs.{IsHaloed, arguments_of}
use Rattle.cpl_rule.specs.declared.demand.Demand.{Demand}
use Rattle.cpl_rule.specs.declared.room.Room.{Room}
use Rattle.cpl_rule.specs.declared.scene.Scene.{Scene}
use Rattle.cpl_phase.specs.Assignments.{HaveRoom}
use Rattle.cpl_phase.specs.Phases.{IsPhaseOn}
use Rattle.cpl_phase.specs.Rooms.{IsRoomFor}

-- what holds of all members holds of the one of a place
pub member-is : {A : Type 0} (P : A → Type 0) (xs : List A) (k : ℕ) (x : A) → slice_get xs k ≡ Some x → All P xs → P x
member-is P xs k x there each = subst P (get_or_from_slice_get xs k x x there) (each k x (slice_get_within xs k x there))

-- a place at which there is an own field is below the number of fields
own-below : (roles : List Role) (k : ℕ) → is_own (slice_get roles k) ≡ true → k < length roles
own-below roles k own = elim (cases_lt k (length roles)) [
  | inl below ↦ below
  | inr past ↦ absurd (false≢true (ap is_own (sym (slice_get_past roles k past)) ∙ own))
]

-- all places of a list are
all-below : (roles : List Role) (ks : List ℕ) → list_all (λ k. is_own (slice_get roles k)) ks ≡ true → All (λ k. k < length roles) ks
all-below roles [] all = All-nil (λ k. k < length roles)
all-below roles (k ∷ ks) all =
    let parts = and_parts (is_own (slice_get roles k)) (list_all (λ j. is_own (slice_get roles j)) ks) all in
    All-cons (λ j. j < length roles) k ks (own-below roles k parts.0) (all-below roles ks parts.1)

-- pairs of a list without its first
pairs-tail : {A : Type 0} (R : A → A → Type 0) (x : A) (xs : List A) → AllPairs R (x ∷ xs) → AllPairs R xs
pairs-tail R x xs each = λ i j d before below. each (suc i) (suc j) d (omega (arith, before)) (omega (arith, below))

-- pairs of the second of two lists
pairs-right : {A : Type 0} (R : A → A → Type 0) (xs ys : List A) → AllPairs R (xs ++ ys) → AllPairs R ys
pairs-right R [] ys each = each
pairs-right R (x ∷ xs) ys each = pairs-right R xs ys (pairs-tail R x (xs ++ ys) each)

module _ (limits : Limits) (count : ℕ) (demand : Demand) (rules : List Rule) (are : All (IsRule limits count) rules)
    (covered : All (IsCovered demand) rules) where
  -- rules can be carried out over a block with the demand's ring
  pub rules-on : (scene : Scene) (book : List NativeEntry) → scene.frame.rx ≡ demand.rx → scene.frame.ry ≡ demand.ry → scene.fields ≡ count
      → limits.alarms ≡ length scene.moment.times.alarms.now → limits.inputs ≡ map (λ (e : NativeEntry). e.inputs) book
      → All (IsRuleOn scene book) rules
  rules-on scene book rx ry number alarms inputs = λ k d below.
      rule-on limits scene book demand (get_or rules k d) rx ry alarms inputs
      (subst (λ n. IsRule limits n (get_or rules k d)) (sym number) (are k d below)) (covered k d below)

  -- there is room for them
  pub rules-roomy : (room : Room) → CanBeMet demand → IsRoomFor demand room → All (HasRoom room) rules
  rules-roomy room met is = λ k d below. rule-roomy demand room (get_or rules k d) met is.places is.inputs is.scratch (covered k d below)

-- what rules read beside the cell is of their halo
pub rules-haloed : (limits : Limits) (count : ℕ) (rules : List Rule) → All (IsRule limits count) rules
    → All (λ rule. All (IsHaloed (halo_of count rules).fields) (arguments_of rule)) rules
rules-haloed limits count rules are = λ k d below. rule-haloed limits count rules k d below (are k d below)

module _ (limits : Limits) (comp : Comp) (accepted : IsComponent limits comp) (phase : Phase) (p : ℕ)
    (there : slice_get comp.phases p ≡ Some phase) where
  -- the phase of a place
  pub phase-is : IsPhase limits comp.kind (roles_of comp.fields) phase
  phase-is = member-is (IsPhase limits comp.kind (roles_of comp.fields)) comp.phases p phase there accepted.phases

  many-roles : length (roles_of comp.fields) ≡ length comp.fields
  many-roles = length-map comp.fields (λ (field : Field). field.role)

  abbrev set_fields : List ℕ
  set_fields = map (λ (row : SetRow). row.field) phase.sets

  abbrev merge_fields : List ℕ
  merge_fields = map (λ (row : MergeRow). row.field) phase.merges

  -- the fields that it gives a value
  written-below : All (λ k. k < length comp.fields) (set_fields ++ (merge_fields ++ phase.averages))
  written-below =
      subst (All (λ k. k < length comp.fields)) (append_assoc set_fields merge_fields phase.averages)
      (subst (λ n. All (λ k. k < n) (written_fields phase)) many-roles (all-below (roles_of comp.fields) (written_fields phase) phase-is.written_own))

  added-below : All (λ k. k < length comp.fields) (added_fields phase)
  added-below = subst (λ n. All (λ k. k < n) (added_fields phase)) many-roles
      (all-below (roles_of comp.fields) (added_fields phase) phase-is.added_own)

  pub sets-below : All (λ row. row.field < length comp.fields) phase.sets
  sets-below = All-unmap (λ k. k < length comp.fields) (λ (row : SetRow). row.field) phase.sets
      (All-left (λ k. k < length comp.fields) set_fields (merge_fields ++ phase.averages) written-below)

  pub merges-below : All (λ row. row.field < length comp.fields) phase.merges
  merges-below =
      All-unmap (λ k. k < length comp.fields) (λ (row : MergeRow). row.field) phase.merges
      (All-left (λ k. k < length comp.fields) merge_fields phase.averages
      (All-right (λ k. k < length comp.fields) set_fields (merge_fields ++ phase.averages) written-below))

  pub averages-below : All (λ k. k < length comp.fields) phase.averages
  averages-below =
      All-right (λ k. k < length comp.fields) merge_fields phase.averages
      (All-right (λ k. k < length comp.fields) set_fields (merge_fields ++ phase.averages) written-below)

  pub adds-below : All (λ row. row.field < length comp.fields) phase.adds
  adds-below = All-unmap (λ k. k < length comp.fields) (λ (row : SetRow). row.field) phase.adds added-below

  module _ (demand : Demand) (covered : IsPhaseCovered demand phase) where
    -- it can be carried out
    pub phase-on : (scene : Scene) (book : List NativeEntry) → scene.frame.rx ≡ demand.rx → scene.frame.ry ≡ demand.ry
        → scene.fields ≡ length comp.fields
        → limits.alarms ≡ length scene.moment.times.alarms.now → limits.inputs ≡ map (λ (e : NativeEntry). e.inputs) book
        → IsPhaseOn scene book phase
    phase-on scene book rx ry number alarms inputs =
        let count = length (roles_of comp.fields) in
        let fields : scene.fields ≡ count = number ∙ sym many-roles in
        let rules = rules_of phase in
        let on = rules-on limits count demand rules phase-is.rules covered scene book rx ry fields alarms inputs in
        let set_rules = map (λ (row : SetRow). row.rule) phase.sets in
        let add_rules = map (λ (row : SetRow). row.rule) phase.adds in
        let near : All (λ rule. All (IsHaloed phase.halo.fields) (arguments_of rule)) rules =
        subst (λ (halo : Halo). All (λ rule. All (IsHaloed halo.fields) (arguments_of rule)) rules) (sym phase-is.halo)
        (rules-haloed limits count rules phase-is.rules) in
        let below : All (λ k. k < count) phase.halo.fields = subst (λ (halo : Halo). All (λ k. k < count) halo.fields) (sym phase-is.halo)
        (halo-below count rules) in
        let to_scene = sym number in
        record {
          halo = subst (λ n. All (λ k. k < n) phase.halo.fields) (sym fields) below;
          sets = All-unmap (IsRuleOn scene book) (λ (row : SetRow). row.rule) phase.sets (All-left (IsRuleOn scene book) set_rules add_rules on);
          sets_haloed = All-unmap (λ rule. All (IsHaloed phase.halo.fields) (arguments_of rule)) (λ (row : SetRow). row.rule) phase.sets
              (All-left (λ rule. All (IsHaloed phase.halo.fields) (arguments_of rule)) set_rules add_rules near);
          set_targets = subst (λ n. All (λ row. row.field < n) phase.sets) to_scene sets-below;
          merges = subst (λ n. All (IsMerge n) phase.merges) (sym fields) phase-is.merges;
          merge_targets = subst (λ n. All (λ row. row.field < n) phase.merges) to_scene merges-below;
          adds = All-unmap (IsRuleOn scene book) (λ (row : SetRow). row.rule) phase.adds (All-right (IsRuleOn scene book) set_rules add_rules on);
          adds_haloed = All-unmap (λ rule. All (IsHaloed phase.halo.fields) (arguments_of rule)) (λ (row : SetRow). row.rule) phase.adds
              (All-right (λ rule. All (IsHaloed phase.halo.fields) (arguments_of rule)) set_rules add_rules near);
          add_targets = subst (λ n. All (λ row. row.field < n) phase.adds) to_scene adds-below;
          adds_once = phase-is.added_once;
          averages = subst (λ n. All (λ k. k < n) phase.averages) to_scene averages-below;
          averages_once = pairs-right (λ a b. a ≢ b) (map (λ (row : MergeRow). row.field) phase.merges) phase.averages
              (pairs-right (λ a b. a ≢ b) (map (λ (row : SetRow). row.field) phase.sets)
              (map (λ (row : MergeRow). row.field) phase.merges ++ phase.averages)
              (subst (AllPairs (λ (a b : ℕ). a ≢ b)) (append_assoc set_fields merge_fields phase.averages) phase-is.written_once));
        }

    -- there is room for its assignments, and for what it keeps
    pub phase-roomy : (room : Room) → CanBeMet demand → IsRoomFor demand room → HaveRoom room phase.sets × HaveRoom room phase.adds
    phase-roomy room met is =
        let roomy = rules-roomy limits (length (roles_of comp.fields)) demand (rules_of phase) phase-is.rules covered room met is in
        let set_rules = map (λ (row : SetRow). row.rule) phase.sets in
        let add_rules = map (λ (row : SetRow). row.rule) phase.adds in (
          All-unmap (HasRoom room) (λ (row : SetRow). row.rule) phase.sets (All-left (HasRoom room) set_rules add_rules roomy),
          All-unmap (HasRoom room) (λ (row : SetRow). row.rule) phase.adds (All-right (HasRoom room) set_rules add_rules roomy),
        )
