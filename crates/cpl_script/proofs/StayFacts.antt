-- What an operation leaves: components that it isn't about, fields that a connector doesn't carry, and that a variable
-- has no stamp.
use Rattle.std.proofs.Common.{◌≡◌, ◌≢◌, ℕ, ◌<◌, ◌≤◌, Bool, true, false, List, [], ◌∷◌, length, get_or, refl, sym, ap, subst, ◌∙◌, inl, inr, arith}
use Rattle.std.specs.Prelude.{◌⊎◌, ℤ, pos, fold, filter, map, slice_get, Option, Some, None, IfSome, IsTrue}
use Rattle.std.specs.List.{All}
use Rattle.std.specs.Option.{option_map_or}
use Rattle.std.proofs.lemmas.Bool.{cases_eq, cases_lt, true≢false}
use Rattle.std.proofs.lemmas.List.Elements.{All-filter}
use Rattle.cpl_comp.proofs.ChangeFacts.{changed-here, changed-other, changed-past, fold-keeps_all, length-changed}
use Rattle.cpl_comp.proofs.HeldFacts.{from-some}
use Rattle.cpl_comp.proofs.StampFacts.{var-after_init, var-after_run}
use Rattle.cpl_comp.specs.Components.{is_role}
use Rattle.cpl_comp.specs.Marks.{CompMarks, marks_after_init, marks_after_run}
use Rattle.cpl_comp.specs.Turns.{Turn, has_role}
use Rattle.cpl_comp.specs.Worlds.{CompWorld, changed, field_at, no_field}
use Rattle.cpl_comp.specs.declared.component.Comp.{Comp}
use Rattle.cpl_comp.specs.declared.component.Field.{Field}
use Rattle.cpl_comp.specs.declared.component.Phase.{Phase}
use Rattle.cpl_comp.specs.declared.component.Role.{Role}
use Rattle.cpl_comp.specs.declared.component.Role.TheVariants.{Var, Import, Export}
use Rattle.cpl_match.specs.declared.port.Pair.{Pair}
use Rattle.cpl_sequence.specs.declared.op.Op.{Op}
use Rattle.cpl_sequence.specs.declared.op.Op.TheVariants.{Init, Link as LinkOp, Run}
use Rattle.cpl_script.specs.Couplings.{Coupling}
use Rattle.cpl_script.specs.Held.{AreUnstamped, marks_after, marks_after_link, marks_carried, no_marks, stamp_in}
use Rattle.cpl_script.specs.Operations.{is_init_pair}
use Rattle.cpl_script.specs.Sound.{IsCarried, IsConnector}
use Rattle.cpl_script.specs.Transfers.{World, carried, carried_pairs, comp_at, no_comp, world_after_link}
use Rattle.cpl_script.specs.declared.link.Link.{Link}
use Rattle.cpl_script.proofs.WorldFacts.{All-slice_get}

-- ---- what a connector leaves

-- a component into which no pair leads stays
pub others-after_link : (comps : List Comp) (link : Link) (at_init : Bool) (world : World) (c : ℕ) → All (λ (pair : Pair). c ≢ pair.dst) (carried_pairs comps link at_init)
    → comp_at (world_after_link comps link at_init world) c ≡ comp_at world c
others-after_link comps link at_init world c others =
    fold-keeps_all (λ (w : World). comp_at w c ≡ comp_at world c) (λ (pair : Pair). c ≢ pair.dst) (carried comps link world)
    (λ w pair other same. changed-other _ pair.dst c w no_comp other ∙ same) world (carried_pairs comps link at_init) others refl

-- a pair feeds another component, or another field
abbrev IsElsewhere : ℕ → ℕ → Pair → Type 0
IsElsewhere c k pair = (c ≢ pair.dst) ⊎ (k ≢ pair.dst_field)

-- a component, changed at another place or so that a field stays, has that field
field-changed : (change : CompWorld → CompWorld) (place c k : ℕ) (world : World) → ((w : CompWorld) → field_at (change w).fields k ≡ field_at w.fields k) → field_at (comp_at (changed change place world) c).fields k ≡ field_at (comp_at world c).fields k
field-changed change place c k world stays = elim (cases_eq c place) [
  | inl same ↦ subst (λ j. field_at (comp_at (changed change place world) j).fields k ≡ field_at (comp_at world j).fields k) (sym same)
      (elim (cases_lt place (length world)) [
        | inl inside ↦ ap (λ (w : CompWorld). field_at w.fields k) (changed-here change place world no_comp inside) ∙ stays (comp_at world place)
        | inr past ↦ ap (λ (w : World). field_at (comp_at w place).fields k) (changed-past change place world past)
      ])
  | inr differ ↦ ap (λ (w : CompWorld). field_at w.fields k) (changed-other change place c world no_comp differ)
]

field-carried : (comps : List Comp) (link : Link) (before world : World) (c k : ℕ) (pair : Pair) → IsElsewhere c k pair
    → field_at (comp_at (carried comps link before world pair) c).fields k ≡ field_at (comp_at world c).fields k
field-carried comps link before world c k pair (inl other) = ap (λ (w : CompWorld). field_at w.fields k) (changed-other _ pair.dst c world no_comp other)
field-carried comps link before world c k pair (inr other) = field-changed _ pair.dst c k world (λ w. changed-other _ pair.dst_field k w.fields no_field other)

-- a field that no pair feeds stays
pub field-after_link : (comps : List Comp) (link : Link) (at_init : Bool) (world : World) (c k : ℕ) → All (IsElsewhere c k) (carried_pairs comps link at_init)
    → field_at (comp_at (world_after_link comps link at_init world) c).fields k ≡ field_at (comp_at world c).fields k
field-after_link comps link at_init world c k others =
    fold-keeps_all (λ (w : World). field_at (comp_at w c).fields k ≡ field_at (comp_at world c).fields k) (IsElsewhere c k) (carried comps link world)
    (λ w pair other same. field-carried comps link world w c k pair other ∙ same) world (carried_pairs comps link at_init) others refl

-- ---- variables have no stamp

-- a variable is no import
var-no_import : (role : Role) → is_role Var role ≡ true → is_role Import role ≡ true → ⊥
var-no_import Var var import = true≢false (sym import)
var-no_import Import var import = true≢false (sym var)
var-no_import Export var import = true≢false (sym var)

var-import_by : (o : Option Field) → option_map_or (λ (field : Field). is_role Var field.role) o false ≡ true → option_map_or (λ (field : Field). is_role Import field.role) o false ≡ true → ⊥
var-import_by None var import = true≢false (sym var)
var-import_by (Some field) var import = var-no_import field.role var import

var-import : (fields : List Field) (k place : ℕ) → has_role Var fields k ≡ true → has_role Import fields place ≡ true → k ≢ place
var-import fields k place var import = λ same.
    var-import_by (slice_get fields place) (subst (λ j. has_role Var fields j ≡ true) same var) import

module _ (comps : List Comp) where
  -- marks, changed at a component so that its variables keep their stamps
  unstamped-changed : (change : CompMarks → CompMarks) (place : ℕ) (marks : List CompMarks)
      → ((comp : Comp) → slice_get comps place ≡ Some comp → (k : ℕ) → has_role Var comp.fields k ≡ true → (m : CompMarks) → get_or (change m).stamps k None ≡ get_or m.stamps k None)
      → AreUnstamped comps marks → AreUnstamped comps (changed change place marks)
  unstamped-changed change place marks keeps are c comp k there var = elim (cases_eq c place) [
    | inl same ↦ subst (λ j. slice_get comps j ≡ Some comp → stamp_in marks j k ≡ None → stamp_in (changed change place marks) j k ≡ None) (sym same)
        (λ at_place none. elim (cases_lt place (length marks)) [
          | inl inside ↦ ap (λ (m : CompMarks). get_or m.stamps k None) (changed-here change place marks no_marks inside) ∙ keeps comp at_place k var (get_or marks place no_marks) ∙ none
          | inr past ↦ ap (λ (ms : List CompMarks). stamp_in ms place k) (changed-past change place marks past) ∙ none
        ]) there (are c comp k there var)
    | inr differ ↦ ap (λ (m : CompMarks). get_or m.stamps k None) (changed-other change place c marks no_marks differ) ∙ are c comp k there var
  ]

  unstamped-carried : (link : Link) (before marks : List CompMarks) (pair : Pair) → IsCarried comps link.line pair → AreUnstamped comps marks → AreUnstamped comps (marks_carried before marks pair)
  unstamped-carried link before marks pair carries are =
      unstamped-changed _ pair.dst marks
      (λ comp there k var m. changed-other _ pair.dst_field k m.stamps None
      (var-import comp.fields k pair.dst_field var (subst (λ o. IfSome o (λ (comp : Comp). IsTrue (has_role Import comp.fields pair.dst_field))) there carries.import))) are

  carried-all : (link : Link) (at_init : Bool) → All (IsCarried comps link.line) link.pairs → All (IsCarried comps link.line) (carried_pairs comps link at_init)
  carried-all link true each = All-filter (is_init_pair comps) (IsCarried comps link.line) link.pairs each
  carried-all link false each = each

  unstamped-link : (link : Link) (at_init : Bool) → IsConnector comps link → (marks : List CompMarks) → AreUnstamped comps marks → AreUnstamped comps (marks_after_link comps link at_init marks)
  unstamped-link link at_init is marks are =
      fold-keeps_all (AreUnstamped comps) (IsCarried comps link.line) (marks_carried marks) (λ ms pair carries now. unstamped-carried link marks ms pair carries now)
      marks (carried_pairs comps link at_init) (carried-all link at_init is.pairs) are

-- a variable of a component, found twice at its place
same-var : (comps : List Comp) (c : ℕ) (comp other : Comp) (k : ℕ) → slice_get comps c ≡ Some comp → slice_get comps c ≡ Some other → has_role Var other.fields k ≡ true → has_role Var comp.fields k ≡ true
same-var comps c comp other k there found var = from-some (λ (x : Comp). has_role Var x.fields k ≡ true) other comp (sym found ∙ there) var

module _ (coupling : Coupling) (links : All (IsConnector coupling.comps) coupling.links) where
  unstamped-init_by : (marks : List CompMarks) → AreUnstamped coupling.comps marks → (c : ℕ) (o : Option Comp) → slice_get coupling.comps c ≡ o
      → AreUnstamped coupling.comps (option_map_or (λ comp. changed (marks_after_init comp) c marks) o marks)
  unstamped-init_by marks are c None there = are
  unstamped-init_by marks are c (Some comp) there =
      unstamped-changed coupling.comps (marks_after_init comp) c marks (λ other found k var m. var-after_init comp m k (same-var coupling.comps c comp other k there found var)) are

  unstamped-phase_by : (marks : List CompMarks) → AreUnstamped coupling.comps marks → (c : ℕ) (turn : Turn) (comp : Comp) → slice_get coupling.comps c ≡ Some comp → (o : Option Phase)
      → AreUnstamped coupling.comps (option_map_or (λ phase. changed (marks_after_run comp phase turn) c marks) o marks)
  unstamped-phase_by marks are c turn comp there None = are
  unstamped-phase_by marks are c turn comp there (Some phase) =
      unstamped-changed coupling.comps (marks_after_run comp phase turn) c marks (λ other found k var m. var-after_run comp phase turn m k (same-var coupling.comps c comp other k there found var)) are

  unstamped-run_by : (marks : List CompMarks) → AreUnstamped coupling.comps marks → (c p : ℕ) (turn : Turn) (o : Option Comp) → slice_get coupling.comps c ≡ o
      → AreUnstamped coupling.comps (option_map_or (λ comp. option_map_or (λ phase. changed (marks_after_run comp phase turn) c marks) (slice_get comp.phases p) marks) o marks)
  unstamped-run_by marks are c p turn None there = are
  unstamped-run_by marks are c p turn (Some comp) there = unstamped-phase_by marks are c turn comp there (slice_get comp.phases p)

  unstamped-link_by : (marks : List CompMarks) → AreUnstamped coupling.comps marks → (n : ℕ) (at_init : Bool) (o : Option Link) → slice_get coupling.links n ≡ o
      → AreUnstamped coupling.comps (option_map_or (λ line. marks_after_link coupling.comps line at_init marks) o marks)
  unstamped-link_by marks are n at_init None there = are
  unstamped-link_by marks are n at_init (Some link) there =
      unstamped-link coupling.comps link at_init (All-slice_get (IsConnector coupling.comps) coupling.links n link links there) marks are

  -- every operation leaves variables without a stamp
  pub unstamped-after : (marks : List CompMarks) (op : Op) → AreUnstamped coupling.comps marks → AreUnstamped coupling.comps (marks_after coupling marks op)
  unstamped-after marks (Init c) are = unstamped-init_by marks are c (slice_get coupling.comps c) refl
  unstamped-after marks (LinkOp link at_init) are = unstamped-link_by marks are link at_init (slice_get coupling.links link) refl
  unstamped-after marks (Run c p time step at substep first last) are =
      unstamped-run_by marks are c p (record { time = time; step = step; at = at; substep = substep; first = first; last = last }) (slice_get coupling.comps c) refl
