-- A pair that a connector carries: what is read and what is put.
use Rattle.std.proofs.Common.{◌≡◌, ℕ, ◌+◌, ◌<◌, true, false, Bool, List, [], fold, length, get_or, Option, Some, None, sym, ap, subst, ◌∙◌, inl, inr, arith}
use Rattle.std.specs.Prelude.{IfSome, IsTrue}
use Rattle.std.specs.List.{slice_get}
use Rattle.std.specs.Option.{option_map_or}
use Rattle.std.proofs.Math.ListN.{get_or-map}
use Rattle.std.proofs.lemmas.Bool.{cases_lt, false≢true}
use Rattle.std.proofs.lemmas.Option.{IfSome_then, slice_get_past}
use Rattle.cpl_comp.specs.Components.{is_role}
use Rattle.cpl_comp.specs.Held.{AreAnswers, AreHeld}
use Rattle.cpl_comp.specs.Marks.{CompMarks}
use Rattle.cpl_comp.specs.Turns.{has_role}
use Rattle.cpl_comp.specs.Worlds.{CompWorld, FieldWorld, field_at as world_at, no_field}
use Rattle.cpl_comp.specs.declared.component.Comp.{Comp}
use Rattle.cpl_comp.specs.declared.component.Field.{Field}
use Rattle.cpl_comp.specs.declared.component.Role.{Role}
use Rattle.cpl_grid.specs.Grid.{cells_in}
use Rattle.cpl_phase.specs.Locals.{StandsForComp}
use Rattle.cpl_phase.specs.declared.local.LocalComp.{LocalComp}
use Rattle.cpl_comp.specs.Readings.{EntryAnswers}
use Rattle.cpl_match.specs.declared.port.Pair.{Pair}
use Rattle.cpl_script.proofs.WorldFacts.{held-after}
use Rattle.cpl_script.specs.Held.{IsHeldWorld}
use Rattle.cpl_script.specs.SerialRun.{world_after}
use Rattle.cpl_script.specs.Sound.{IsBetween, IsConnector, IsCoupling, cells_at}
use Rattle.cpl_script.specs.Transfers.{World, carried, comp_at, world_after_link}
use Rattle.cpl_script.specs.declared.link.Link.{Link}
use Rattle.cpl_sequence.specs.declared.op.Op.TheVariants.{Link as LinkOp}
use Rattle.cpl_serial.proofs.LinkFacts.{carried-first, carried-last, carried-more, source-passed}
use Rattle.cpl_serial.proofs.OpFacts.{link-is}
use Rattle.cpl_serial.specs.Linked.{IsLinked}
use Rattle.cpl_serial.specs.Passed.{is_passed, pairs_passed}
use Rattle.cpl_smm.specs.Rows.{Table}
use Rattle.cpl_sweep.specs.Places.{field_at}
use Rattle.cpl_serial.proofs.EngineFacts.{alone-again, cells-count}
use Rattle.cpl_serial.specs.Engines.{IsWhole, StandEach, StandForWorld}
use Rattle.cpl_serial.specs.Images.{IsTableOver}
use Rattle.cpl_script.specs.Couplings.{Coupling}

-- a field of a role is a field
role-below : (role : Role) (fields : List Field) (k : ℕ) → IsTrue (has_role role fields k) → k < length fields
role-below role fields k is = elim (cases_lt k (length fields)) [
  | inl below ↦ below
  | inr past ↦ absurd (false≢true (sym (ap (λ (o : Option Field). option_map_or (λ field. is_role role field.role) o false) (slice_get_past fields k past)) ∙ is))
]

-- so is that of a pair
pub pair-below : (role : Role) (comps : List Comp) (c k : ℕ) (comp : Comp) → slice_get comps c ≡ Some comp
    → IfSome (slice_get comps c) (λ comp. IsTrue (has_role role comp.fields k)) → k < length comp.fields
pair-below role comps c k comp there is =
    role-below role comp.fields k (subst (λ (o : Option Comp). IfSome o (λ comp. IsTrue (has_role role comp.fields k))) there is)

-- weights between components lead over so many cells
pub table-over : (comps : List Comp) (src dst n m : ℕ) (weights : Option Table) → cells_at comps src ≡ n → cells_at comps dst ≡ m
    → IfSome weights (IsBetween comps src dst) → IfSome weights (λ table. IsTableOver table n m)
table-over comps src dst n m weights is_n is_m between =
    IfSome_then weights between (λ table is. record { sources = is.from ∙ is_n; rows = is.to ∙ is_m })

module _ (coupling : Coupling) (c : ℕ) (comp : Comp) (local : LocalComp) (is : IsWhole coupling c comp local) (k : ℕ) (below : k < length comp.fields) where
  -- as many values are lined up as there are cells
  pub lined-count : length (field_at local.shown k) ≡ cells_in comp.decomp.grid
  lined-count =
      is.is.shown_cells k [] (subst (λ n. k < n) (sym is.is.shown) below) ∙ cells-count local.frame comp is.alone is.is.over

  module _ (world : CompWorld) (stands : StandsForComp comp world local) where
    -- they are those of the world
    pub lined-values : AreHeld (cells_in comp.decomp.grid) (length comp.fields) world.fields → field_at local.shown k ≡ (world_at world.fields k).values
    lined-values held =
        let count = (held.each k no_field (subst (λ n. k < n) (sym held.size) below)).count in
        stands.shown k below ∙ alone-again local.frame comp (world_at world.fields k).values is.alone is.is.over count

    -- and so is the stamp
    pub lined-stamp : get_or local.marks.stamps k None ≡ (world_at world.fields k).stamp
    lined-stamp =
        ap (λ (marks : CompMarks). get_or marks.stamps k None) (sym stands.marks)
        ∙ get_or-map (λ (field : FieldWorld). field.stamp) world.fields k no_field

module _ (coupling : Coupling) (link : Link) (is : IsConnector coupling.comps link) (at_init : Bool) (world : World) where
  -- the world when an operation of a connector has come to a place among its pairs
  abbrev world_passed : ℕ → World
  world_passed j = fold (carried coupling.comps link world) world (pairs_passed coupling.comps link at_init j)

  -- one pair more
  pub carried-step : (j : ℕ) (d : Pair) (pairs : List Pair) (old new : List LocalComp) → pairs ≡ link.pairs → j < length link.pairs
      → is_passed coupling.comps at_init (get_or pairs j d) ≡ true
      → ((before w : World) → IsHeldWorld coupling.comps before → comp_at w (get_or pairs j d).src ≡ comp_at before (get_or pairs j d).src
      → StandEach coupling w old → StandEach coupling (carried coupling.comps link before w (get_or pairs j d)) new)
      → IsHeldWorld coupling.comps world → StandEach coupling (world_passed j) old → StandEach coupling (world_passed (j + 1)) new
  carried-step j d pairs old new same below passed step held stand =
      let pair = get_or link.pairs j d in
      let Passed : List Pair → Type 0 = λ ps. is_passed coupling.comps at_init (get_or ps j d) ≡ true in
      let Steps : List Pair → Type 0 = λ ps. (before w : World) → IsHeldWorld coupling.comps before
      → comp_at w (get_or ps j d).src ≡ comp_at before (get_or ps j d).src
      → StandEach coupling w old → StandEach coupling (carried coupling.comps link before w (get_or ps j d)) new in
      let Stays : ℕ → Type 0 = λ src. comp_at (world_passed j) src ≡ comp_at world src in
      let stays : Stays pair.src = subst Stays (sym (is.pairs j d below).src) (source-passed coupling.comps link is world world at_init j) in
      subst (λ w. StandEach coupling w new) (sym (carried-more coupling.comps link world world at_init j d below (subst Passed same passed)))
      (subst Steps same step world (world_passed j) held stays stand)

  -- before the first pair
  pub carried-none : (old : List LocalComp) → StandForWorld coupling world old → StandEach coupling (world_passed 0) old
  carried-none old stand =
      subst (λ w. StandEach coupling w old) (sym (carried-first coupling.comps link world world at_init)) (record { size = stand.held.size; each = stand.each })

-- no entry answers anything but a value
none-answers : (inputs : List ℕ) → AreAnswers inputs []
none-answers inputs = λ entry list below count values. omega arith

-- all pairs are carried: the world after the operation
pub linked-world : (coupling : Coupling) (is : IsCoupling coupling) (entries : EntryAnswers) (n : ℕ) (link : Link) → slice_get coupling.links n ≡ Some link → (at_init : Bool) (world : World) (old new : List LocalComp)
    → IsLinked coupling link at_init (length link.pairs) old new → StandForWorld coupling world old → StandForWorld coupling (world_after coupling entries world (LinkOp n at_init)) new
linked-world coupling is entries n link there at_init world old new linked stand =
    let after = world_after_link coupling.comps link at_init world in
    let held : IsHeldWorld coupling.comps (world_after coupling entries world (LinkOp n at_init)) =
    held-after coupling [] is.inputs is.comps (none-answers is.inputs) world (LinkOp n at_init) stand.held in
    let same : world_after coupling entries world (LinkOp n at_init) ≡ after = link-is coupling entries world n link at_init there in
    let stood : StandEach coupling after new =
    subst (λ w. StandEach coupling w new) (carried-last coupling.comps link world at_init) (linked.after world stand) in
    let back = subst (λ w. StandEach coupling w new) (sym same) stood in
    record { held = held; each = back.each }
