-- One component changed among those of a system, and the facts of a system that a run asks for.
use Rattle.std.proofs.Common.{◌≡◌, ◌≢◌, ℕ, zero, suc, ◌+◌, ◌^◌, ◌<◌, Bool, List, [], ◌∷◌, ◌++◌, length, map, get_or, set, take, drop, ℤ, pos, Option, Some, refl, sym, ap, subst, ◌∙◌, arith, inl, inr}
use Rattle.std.specs.Prelude.{◌+ℤ◌, ◌≤ℤ◌}
use Rattle.std.specs.List.{All, flat_map, slice_get}
use Rattle.std.specs.Prelude.{IsTrue}
use Rattle.std.specs.Option.{option_map_or}
use Rattle.std.proofs.lemmas.Bool.{false≢true}
use Rattle.std.proofs.lemmas.Bool.Decides.{eqb_tells}
use Rattle.std.proofs.lemmas.Int.{ints}
use Rattle.std.proofs.Math.Seq.{take-append_seam}
use Rattle.std.proofs.lemmas.List.{get_or-set_other, get_or-set_same, length-set}
use Rattle.std.proofs.lemmas.List.FromFn.{length-range_with_len}
use Rattle.std.proofs.lemmas.List.Elements.{All-head, All-set, All-tail}
use Rattle.std.proofs.lemmas.Option.{get_or_from_slice_get, slice_get-get_or, slice_get_within}
use Rattle.cpl_base.specs.Numbers.{IsValue}
use Rattle.cpl_block.specs.Laws.{IsAlone}
use Rattle.cpl_block.specs.declared.frame.Frame.{Frame}
use Rattle.cpl_calendar.specs.Calendar.{InTime}
use Rattle.cpl_clock.specs.Alarm.{IsRegular}
use Rattle.cpl_comp.proofs.CellFacts.{active_cells-again}
use Rattle.cpl_comp.proofs.ChangeFacts.{changed-here, changed-other, length-changed}
use Rattle.cpl_comp.specs.Components.{IsComponent, Limits}
use Rattle.cpl_comp.specs.Held.{AreAnswers}
use Rattle.cpl_comp.specs.Readings.{EntryAnswers, entry_answer}
use Rattle.cpl_comp.specs.Timing.{Timing}
use Rattle.cpl_comp.specs.Turns.{Turn, comp_after_init, comp_after_run, fields_after_run}
use Rattle.cpl_comp.specs.RunFaults.{Fault, average_faults, cell_faults, first_faults, range_faults, run_faults}
use Rattle.cpl_comp.specs.Worlds.{CompWorld, FieldWorld, active_cells, cell_value, changed}
use Rattle.cpl_comp.specs.declared.component.Comp.{Comp}
use Rattle.cpl_comp.specs.declared.component.Phase.{Phase}
use Rattle.cpl_entry.specs.Entries.{NativeEntry}
use Rattle.cpl_formula.proofs.ValuesFacts.{value_of-within}
use Rattle.cpl_formula.specs.Tree.{is_over}
use Rattle.cpl_grid.specs.Grid.{cells_in, indices}
use Rattle.cpl_grid.specs.Owners.{Layout}
use Rattle.cpl_grid.specs.Parts.{cells_of_part}
use Rattle.cpl_marks.specs.Turns.{IsTurn}
use Rattle.cpl_marks.specs.declared.turn.Turn.{Turn as MarksTurn}
use Rattle.cpl_phase.specs.Locals.{IsAccepted, IsAged, StandsForComp, faults_on}
use Rattle.cpl_phase.specs.Worlds.{HaveArrived}
use Rattle.cpl_phase.specs.declared.local.LocalComp.{LocalComp}
use Rattle.cpl_rule.specs.Assigned.{answers_of}
use Rattle.cpl_rule.specs.Moments.{IsTimed, timing_of}
use Rattle.cpl_rule.specs.declared.moment.Times.{Times}
use Rattle.cpl_script.specs.Couplings.{Coupling, is_connected, no_layout}
use Rattle.cpl_script.specs.Held.{IsHeldWorld}
use Rattle.cpl_script.specs.SerialRun.{phase_faults, world_after_init, world_after_run}
use Rattle.cpl_script.specs.Sound.{AreComponents, CallsEntries, IsTiming, cells_at}
use Rattle.cpl_script.specs.Transfers.{World, comp_at, no_comp}
use Rattle.cpl_sequence.specs.Bounds.{IsRunWithin}
use Rattle.cpl_serial.specs.Engines.{AreWhole, IsWhole, StandEach, StandForWorld}

-- ---- members

-- only one thing stands at a place
pub same-member : {A : Type 0} (xs : List A) (k : ℕ) (x y : A) → slice_get xs k ≡ Some x → slice_get xs k ≡ Some y → x ≡ y
same-member xs k x y one two = sym (get_or_from_slice_get xs k x x one) ∙ get_or_from_slice_get xs k y x two

-- what was put at a place stands there
set-here : {A : Type 0} (xs : List A) (k : ℕ) (x y : A) → k < length xs → slice_get (set xs k x) k ≡ Some y → y ≡ x
set-here xs k x y below there = sym (get_or_from_slice_get (set xs k x) k y x there) ∙ get_or-set_same xs k x x below

-- and all else where it stood
set-there : {A : Type 0} (xs : List A) (k : ℕ) (x : A) (j : ℕ) (y : A) → j ≢ k → slice_get (set xs k x) j ≡ Some y → slice_get xs j ≡ Some y
set-there xs k x j y other there =
    let below : j < length xs = subst (λ n. j < n) (length-set xs k x) (slice_get_within (set xs k x) j y there) in
    slice_get-get_or xs j y below ∙ ap Some (sym (get_or-set_other xs k j x y other) ∙ get_or_from_slice_get (set xs k x) j y y there)

-- what holds of a component that was put at its place, and of all others, holds of all
each-set : (P : ℕ → Comp → LocalComp → Type 0) (comps : List Comp) (locals : List LocalComp) (c : ℕ) (comp : Comp) (new : LocalComp)
    → slice_get comps c ≡ Some comp → c < length locals → P c comp new
    → ((j : ℕ) (q : Comp) (l : LocalComp) → j ≢ c → slice_get comps j ≡ Some q → slice_get locals j ≡ Some l → P j q l)
    → (j : ℕ) (q : Comp) (l : LocalComp) → slice_get comps j ≡ Some q → slice_get (set locals c new) j ≡ Some l → P j q l
each-set P comps locals c comp new there below here others j q l q_there l_there = elim (eqb_tells j c) [
  | inl at ↦
      let G : ℕ → Type 0 = λ n. slice_get comps n ≡ Some q → slice_get (set locals c new) n ≡ Some l → P n q l in
      let at_c : G c = λ q_here l_here.
      subst (λ (s : Comp). P c s l) (same-member comps c comp q there q_here) (subst (P c comp) (sym (set-here locals c new l below l_here)) here) in
      subst G (sym at.1) at_c q_there l_there
  | inr off ↦ others j q l off.1 q_there (set-there locals c new j l off.1 l_there)
]

module _ (coupling : Coupling) (locals : List LocalComp) (c : ℕ) (comp : Comp) (new : LocalComp) (there : slice_get coupling.comps c ≡ Some comp) (whole : AreWhole coupling locals) where
  -- the place is one of a component on its grid
  pub place-below : c < length locals
  place-below = subst (λ n. c < n) (sym whole.size) (slice_get_within coupling.comps c comp there)

  -- all are on their grids
  pub whole-set : IsWhole coupling c comp new → AreWhole coupling (set locals c new)
  whole-set is = record {
    size = length-set locals c new ∙ whole.size;
    each = each-set (IsWhole coupling) coupling.comps locals c comp new there place-below is (λ j q l off q_there l_there. whole.each j q l q_there l_there);
  }

  -- and each stands for its component of the world with that one changed
  pub stand-each : (world : World) (change : CompWorld → CompWorld) → StandEach coupling world locals
      → StandsForComp comp (change (comp_at world c)) new → StandEach coupling (changed change c world) (set locals c new)
  stand-each world change stand here = record {
    size = length-changed change c world ∙ stand.size;
    each = each-set (λ j q l. StandsForComp q (comp_at (changed change c world) j) l) coupling.comps locals c comp new there place-below
        (subst (λ (w : CompWorld). StandsForComp comp w new) (sym (changed-here change c world no_comp (subst (λ n. c < n) (sym stand.size) (slice_get_within coupling.comps c comp there)))) here)
        (λ j q l off q_there l_there. subst (λ (w : CompWorld). StandsForComp q w l) (sym (changed-other change c j world no_comp off)) (stand.each j q l q_there l_there));
  }

  -- and all stand for that world
  pub stand-set : (world : World) (change : CompWorld → CompWorld) → StandForWorld coupling world locals → IsHeldWorld coupling.comps (changed change c world)
      → StandsForComp comp (change (comp_at world c)) new → StandForWorld coupling (changed change c world) (set locals c new)
  stand-set world change stand held here =
      let stood = stand-each world change (record { size = stand.held.size; each = stand.each }) here in
      record { held = held; each = stood.each }

-- ---- lent lists

-- what is left of a lent list in which one place was set
pub back-set : {A : Type 0} (old slots : List A) (k : ℕ) (x : A) → slots ≡ old → take (length old) (set slots k x ++ drop (length (set slots k x)) old) ≡ set old k x
back-set {A} old slots k x same =
    let G : List A → Type 0 = λ s. take (length old) (set s k x ++ drop (length (set s k x)) old) ≡ set old k x in
    let new = set old k x in
    subst G (sym same) (ap (λ n. take n (new ++ drop (length new) old)) (sym (length-set old k x)) ∙ take-append_seam new (drop (length new) old))

-- what stands at a place of a lent list
pub lent-member : {A : Type 0} (old slots : List A) (k : ℕ) (d : A) → slots ≡ old → k < length old → slice_get old k ≡ Some (get_or slots k d)
lent-member old slots k d same below = slice_get-get_or old k d below ∙ ap (λ xs. Some (get_or xs k d)) (sym same)

-- something stands at a place within a list
pub record IsMember {A : Type 0} (xs : List A) (k : ℕ) : Type 0 where
  pub member : A
  pub stands : slice_get xs k ≡ Some member

pub member-there : {A : Type 0} (xs : List A) (k : ℕ) → k < length xs → IsMember xs k
member-there [] k below = absurd (omega (arith, below))
member-there (x ∷ xs) zero below = record { member = x; stands = refl }
member-there (x ∷ xs) (suc k) below =
    let more = member-there xs k (omega (arith, below)) in
    record { member = more.member; stands = more.stands }

-- ---- ages

aged-more : (done : ℕ) (local : LocalComp) → IsAged done local → IsAged (done + 1) local
aged-more done local aged = record { runs = omega (arith, aged.runs); kept = λ j d below. omega (arith, aged.kept j d below) }

-- and so are all
pub aged-all : (done : ℕ) (locals : List LocalComp) → All (IsAged done) locals → All (IsAged (done + 1)) locals
aged-all done locals each = λ j d below. aged-more done (get_or locals j d) (each j d below)

-- one component is an operation older, and so none is older than that
pub aged-set : (done : ℕ) (locals : List LocalComp) (c : ℕ) (new : LocalComp) → IsAged (done + 1) new → All (IsAged done) locals → All (IsAged (done + 1)) (set locals c new)
aged-set done locals c new is each = All-set (IsAged (done + 1)) locals c new is (λ j d below. aged-more done (get_or locals j d) (each j d below))

-- ---- what a system tells

-- components with the inputs of the entries that they call
pub components-by : (coupling : Coupling) (inputs own : List ℕ) → AreComponents coupling.pets coupling.timing own coupling.comps → CallsEntries inputs coupling
    → AreComponents coupling.pets coupling.timing inputs coupling.comps
components-by coupling inputs own are calls = record {
  some = are.some;
  few = are.few;
  some_pets = are.some_pets;
  few_pets = are.few_pets;
  each = calls;
  few_values = are.few_values;
}

-- the entries of a book answer values to values
pub answers-by : (book : List NativeEntry) → All (λ (entry : NativeEntry). IsTrue (is_over entry.inputs entry.formula)) book
    → AreAnswers (map (λ (entry : NativeEntry). entry.inputs) book) (answers_of book)
answers-by [] over = λ entry list below count values. absurd (omega (arith, below))
answers-by (e ∷ es) over = λ entry list below count values.
    elim entry as (λ entry. entry < length (map (λ (entry : NativeEntry). entry.inputs) (e ∷ es)) → get_or (map (λ (entry : NativeEntry). entry.inputs) (e ∷ es)) entry 0 ≡ length list
    → IsValue (entry_answer (answers_of (e ∷ es)) entry list)) [
      | zero ↦ λ below count. value_of-within list values e.formula (subst (λ n. IsTrue (is_over n e.formula)) count (All-head (λ (entry : NativeEntry). IsTrue (is_over entry.inputs entry.formula)) e es over))
      | suc entry ↦ λ below count. answers-by es (All-tail (λ (entry : NativeEntry). IsTrue (is_over entry.inputs entry.formula)) e es over) entry list (omega (arith, below)) count values
    ] below count

-- a component of a system can be carried out with a book
pub accepted-by : (coupling : Coupling) (book : List NativeEntry) (times : Times) (c : ℕ) (comp : Comp) → CallsEntries (map (λ (entry : NativeEntry). entry.inputs) book) coupling
    → timing_of times ≡ coupling.timing → slice_get coupling.comps c ≡ Some comp → IsAccepted (length times.alarms.now) book comp
accepted-by coupling book times c comp calls same there =
    let limits : Limits = record { pets = coupling.pets; alarms = length coupling.timing.alarms; inputs = map (λ (entry : NativeEntry). entry.inputs) book } in
    record {
      limits = limits;
      is = subst (IsComponent limits) (get_or_from_slice_get coupling.comps c comp comp there) (calls c comp (slice_get_within coupling.comps c comp there));
      alarm_count = ap (λ (timing : Timing). length timing.alarms) (sym same);
      inputs = refl;
    }

-- What a run asks of its timing at a time.
record IsTimingAt (at : ℤ) (timing : Timing) : Type 0 where
  pub start : pos 0 ≤ℤ timing.start
  pub within : InTime timing.cal (timing.start +ℤ at)
  pub regular : All IsRegular timing.alarms

-- a time of a run lies in the calendar
pub timed-by : (timing : Timing) (span : ℤ) (times : Times) (at : ℤ) → IsTiming timing span → timing_of times ≡ timing → pos 0 ≤ℤ at → at ≤ℤ span → IsTimed times at
timed-by timing span times at is same low high =
    let given : IsTimingAt at timing = record {
      start = is.start.begun;
      within = record { begun = omega (arith, ints, is.start.begun, low); not_over = omega (arith, ints, is.end, high) };
      regular = is.alarms;
    } in
    let there : IsTimingAt at (timing_of times) = subst (IsTimingAt at) (sym same) given in
    record { start = there.start; low = low; within = there.within; regular = there.regular }

-- the turn of a run within its span
pub turn-by : (span : ℤ) (turn : MarksTurn) → IsRunWithin span turn.time turn.step turn.at turn.substep → span ≤ℤ pos (2 ^ 40) → IsTurn turn
turn-by span turn within short = record {
  forward = within.forward;
  step_some = omega (arith, ints, within.step_some);
  step_ends = omega (arith, ints, within.step_ends, short);
}

-- the time of a run within its span
pub at-low : (span time step at substep : ℤ) → IsRunWithin span time step at substep → pos 0 ≤ℤ at
at-low span time step at substep within = omega (arith, ints, within.forward, within.from_time)

pub at-high : (span time step at substep : ℤ) → IsRunWithin span time step at substep → at ≤ℤ span
at-high span time step at substep within = omega (arith, ints, within.step_ends, within.substep_ends, within.substep_some)

-- ---- on a whole grid

-- nothing has to arrive
pub nothing-far : (frame : Frame) (halo : List ℕ) (world : List FieldWorld) (fields : List (List ℤ)) → IsAlone frame → HaveArrived frame halo world fields
nothing-far frame halo world fields alone = λ j below place inside far. absurd (false≢true (sym (alone.far place) ∙ far))

-- the cells of a block that is alone are all cells
pub cells-alone : (frame : Frame) (layout : Layout) → IsAlone frame → frame.grid ≡ layout.grid → cells_of_part frame.grid frame.part ≡ active_cells layout
unfolding active_cells
cells-alone frame layout alone over = alone.cells ∙ ap indices over

-- so the faults on it are all faults
pub faults-alone : (frame : Frame) (comp : Comp) (phase : Phase) (turn : Turn) (some all : ℕ → Bool) (world : CompWorld) (after : List FieldWorld)
    → IsAlone frame → frame.grid ≡ comp.decomp.grid → ((k : ℕ) → some k ≡ all k)
    → faults_on frame comp phase turn some world after ≡ run_faults comp phase turn all world after
faults-alone frame comp phase turn some all world after alone over same =
    let first : (ℕ → Bool) → List Fault = λ connected. first_faults comp phase turn connected world ++ average_faults world.fields phase in
    ap (λ cells. first some ++ flat_map (cell_faults after phase.ranges) cells) (cells-alone frame comp.decomp alone over)
    ∙ (λ i. first (λ k. same k i) ++ range_faults comp.decomp after phase.ranges)

-- ---- the world after a run

module _ (coupling : Coupling) (entries : EntryAnswers) (world : World) (c p : ℕ) (turn : Turn) (comp : Comp) (stage : Phase)
    (there : slice_get coupling.comps c ≡ Some comp) (stage_there : slice_get comp.phases p ≡ Some stage) where
  -- it is changed at the component
  pub world-run : world_after_run coupling entries world c p turn ≡ changed (comp_after_run coupling.timing entries comp stage turn) c world
  world-run =
      ap (λ (o : Option Comp). option_map_or (λ comp. option_map_or (λ phase. changed (comp_after_run coupling.timing entries comp phase turn) c world) (slice_get comp.phases p) world) o world) there
      ∙ ap (λ (o : Option Phase). option_map_or (λ phase. changed (comp_after_run coupling.timing entries comp phase turn) c world) o world) stage_there

  -- and its faults are the component's
  pub faults-run : phase_faults coupling entries world c p turn
      ≡ run_faults comp stage turn (is_connected coupling c) (comp_at world c) (fields_after_run coupling.timing entries comp stage turn (comp_at world c).fields)
  faults-run =
      ap (λ (o : Option Comp). option_map_or (λ comp. option_map_or (λ phase. run_faults comp phase turn (is_connected coupling c) (comp_at world c) (fields_after_run coupling.timing entries comp phase turn (comp_at world c).fields)) (slice_get comp.phases p) []) o []) there
      ∙ ap (λ (o : Option Phase). option_map_or (λ phase. run_faults comp phase turn (is_connected coupling c) (comp_at world c) (fields_after_run coupling.timing entries comp phase turn (comp_at world c).fields)) o []) stage_there

-- the world after an initialisation is changed at the component
pub world-init : (coupling : Coupling) (entries : EntryAnswers) (world : World) (c : ℕ) (comp : Comp) → slice_get coupling.comps c ≡ Some comp
    → world_after_init coupling entries world c ≡ changed (comp_after_init coupling.timing entries comp) c world
world-init coupling entries world c comp there =
    ap (λ (o : Option Comp). option_map_or (λ comp. changed (comp_after_init coupling.timing entries comp) c world) o world) there

-- ---- cells

-- how many cells the component of a place has
pub cells-there : (comps : List Comp) (c : ℕ) (comp : Comp) → slice_get comps c ≡ Some comp → cells_at comps c ≡ cells_in comp.decomp.grid
cells-there comps c comp there = ap (λ (o : Option Comp). cells_in (option_map_or (λ comp. comp.decomp) o no_layout).grid) there

-- a block that is alone has so many
pub cells-count : (frame : Frame) (comp : Comp) → IsAlone frame → frame.grid ≡ comp.decomp.grid → length (cells_of_part frame.grid frame.part) ≡ cells_in comp.decomp.grid
cells-count frame comp alone over = ap length alone.cells ∙ length-range_with_len 1 (cells_in frame.grid) ∙ ap cells_in over

-- a value for each cell is what it has at the cells of a block that is alone
pub alone-again : (frame : Frame) (comp : Comp) (values : List ℤ) → IsAlone frame → frame.grid ≡ comp.decomp.grid → length values ≡ cells_in comp.decomp.grid
    → map (cell_value values) (cells_of_part frame.grid frame.part) ≡ values
alone-again frame comp values alone over count = ap (map (cell_value values)) (cells-alone frame comp.decomp alone over) ∙ active_cells-again comp.decomp values count
