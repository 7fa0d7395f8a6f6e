-- What an operation is where its component, its phase and its connector are there; and ends and rows, one more.
use Rattle.std.proofs.Common.{◌≡◌, ℕ, ◌+◌, ◌<◌, Bool, List, [], ◌∷◌, ◌++◌, length, get_or, sym, ap, ◌∙◌}
use Rattle.std.specs.Prelude.{fold, map, take, slice_get, Option, Some}
use Rattle.std.specs.List.{enumerate_from}
use Rattle.std.specs.Option.{option_map_or}
use Rattle.std.proofs.lemmas.List.{map-append, take_more}
use Rattle.std.proofs.lemmas.List.Sums.{fold-append}
use Rattle.cpl_comp.specs.Readings.{EntryAnswers}
use Rattle.cpl_comp.specs.RunFaults.{Fault, average_faults, first_faults, lesser, range_faults, run_faults}
use Rattle.cpl_comp.specs.Turns.{Turn, comp_after_init, comp_after_run, fields_after_run, places_of}
use Rattle.cpl_comp.specs.Worlds.{CompWorld, FieldWorld, changed}
use Rattle.cpl_comp.specs.declared.component.Comp.{Comp}
use Rattle.cpl_comp.specs.declared.component.Phase.{Phase}
use Rattle.cpl_comp.specs.declared.component.Role.TheVariants.{Export}
use Rattle.cpl_sequence.specs.declared.op.Op.TheVariants.{Init, Link as LinkOp, Run}
use Rattle.cpl_script.specs.Couplings.{Coupling, is_connected}
use Rattle.cpl_script.specs.SerialRun.{comp_end, phase_faults, phase_rows, trace_row, world_after}
use Rattle.cpl_script.specs.Transfers.{World, comp_at, world_after_link}
use Rattle.cpl_script.specs.declared.link.Link.{Link}
use Rattle.cpl_trace.specs.declared.row.TraceRow.{TraceRow}
use Rattle.cpl_serial.proofs.OutcomeFacts.{enumerate-next}

-- ---- operations

module _ (coupling : Coupling) (entries : EntryAnswers) (world : World) where
  -- an initialisation changes its component
  pub init-is : (component : ℕ) (comp : Comp) → slice_get coupling.comps component ≡ Some comp
      → world_after coupling entries world (Init component) ≡ changed (comp_after_init coupling.timing entries comp) component world
  init-is component comp there =
      ap (λ o. option_map_or (λ (comp : Comp). changed (comp_after_init coupling.timing entries comp) component world) o world) there

  -- a connector carries its pairs
  pub link-is : (n : ℕ) (link : Link) (at_init : Bool) → slice_get coupling.links n ≡ Some link
      → world_after coupling entries world (LinkOp n at_init) ≡ world_after_link coupling.comps link at_init world
  link-is n link at_init there = ap (λ o. option_map_or (λ (line : Link). world_after_link coupling.comps line at_init world) o world) there

  module _ (component phase : ℕ) (turn : Turn)
      (comp : Comp) (there : slice_get coupling.comps component ≡ Some comp)
      (p : Phase) (found : slice_get comp.phases phase ≡ Some p) where
    -- a run changes its component
    pub run-is : world_after coupling entries world (Run component phase turn.time turn.step turn.at turn.substep turn.first turn.last)
        ≡ changed (comp_after_run coupling.timing entries comp p turn) component world
    run-is =
        let after : Comp → Phase → World = λ comp p. changed (comp_after_run coupling.timing entries comp p turn) component world in
        ap (λ o. option_map_or (λ (comp : Comp). option_map_or (after comp) (slice_get comp.phases phase) world) o world) there
        ∙ ap (λ o. option_map_or (after comp) o world) found

    -- what it finds is what its phase finds
    pub phase_faults-is : phase_faults coupling entries world component phase turn
        ≡ run_faults comp p turn (is_connected coupling component) (comp_at world component)
        (fields_after_run coupling.timing entries comp p turn (comp_at world component).fields)
    phase_faults-is =
        let faults : Comp → Phase → List Fault = λ comp p.
        run_faults comp p turn (is_connected coupling component) (comp_at world component)
        (fields_after_run coupling.timing entries comp p turn (comp_at world component).fields) in
        ap (λ o. option_map_or (λ (comp : Comp). option_map_or (faults comp) (slice_get comp.phases phase) []) o []) there
        ∙ ap (λ o. option_map_or (faults comp) o []) found

-- the rows of a phase are those of its component's exports
pub phase_rows-is : (coupling : Coupling) (world : World) (op component phase : ℕ) (comp : Comp) → slice_get coupling.comps component ≡ Some comp
    → phase_rows coupling world op component phase
    ≡ map (trace_row op component phase comp.decomp (comp_at world component).fields) (places_of Export comp.fields)
phase_rows-is coupling world op component phase comp there =
    let rows : Comp → List TraceRow = λ comp.
    map (trace_row op component phase comp.decomp (comp_at world component).fields) (places_of Export comp.fields) in
    ap (λ o. option_map_or rows o []) there

-- the least that a run finds, noted list after list: at the beginning of the step, then averages, then ranges
pub run-least : (comp : Comp) (phase : Phase) (turn : Turn) (connected : ℕ → Bool) (world : CompWorld)
    (after : List FieldWorld) (found : Option Fault)
    → fold (lesser (λ (f : Fault). f.place))
    (fold (lesser (λ (f : Fault). f.place))
    (fold (lesser (λ (f : Fault). f.place)) found (first_faults comp phase turn connected world)) (average_faults world.fields phase))
    (range_faults comp.decomp after phase.ranges)
    ≡ fold (lesser (λ (f : Fault). f.place)) found (run_faults comp phase turn connected world after)
run-least comp phase turn connected world after found =
    let first = first_faults comp phase turn connected world in
    let averages = average_faults world.fields phase in
    let ranges = range_faults comp.decomp after phase.ranges in
    ap (λ o. fold (lesser (λ (f : Fault). f.place)) o ranges) (sym (fold-append (lesser (λ (f : Fault). f.place)) found first averages))
    ∙ sym (fold-append (lesser (λ (f : Fault). f.place)) found (first ++ averages) ranges)

-- ---- one more

-- the ends of components, and of one more
pub ends-next : (world : World) (comps : List Comp) (c : ℕ) (comp : Comp) → slice_get comps c ≡ Some comp
    → map (comp_end world) (enumerate_from 0 (take (c + 1) comps))
    ≡ map (comp_end world) (enumerate_from 0 (take c comps)) ++ comp_end world (c, comp) ∷ []
ends-next world comps c comp there =
    ap (map (comp_end world)) (enumerate-next comps c comp there)
    ∙ map-append (comp_end world) (enumerate_from 0 (take c comps)) ((c, comp) ∷ [])

-- what a function makes of members, and of one more
pub map-next : {A B : Type 0} (f : A → B) (xs : List A) (k : ℕ) (d : A) → k < length xs
    → map f (take (k + 1) xs) ≡ map f (take k xs) ++ f (get_or xs k d) ∷ []
map-next f xs k d below = ap (map f) (take_more xs k d below) ∙ map-append f (take k xs) (get_or xs k d ∷ [])
