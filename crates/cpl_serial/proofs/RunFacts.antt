-- One operation more of a serial run: it has come further, or it stops.
use Rattle.std.proofs.Common.{◌≡◌, ◌≢◌, ℕ, ◌+◌, ◌<◌, Bool, true, false, List, [], ◌∷◌, ◌++◌, length, map, ℤ, refl, sym, ap, subst, ◌∙◌, arith}
use Rattle.std.specs.Prelude.{nat_lt, if◌then◌else◌, fold, take, slice_get, Option, Some, None}
use Rattle.std.specs.List.{All}
use Rattle.std.specs.Option.{option_map}
use Rattle.std.proofs.lemmas.List.Elements.{All-head, All-tail}
use Rattle.std.proofs.lemmas.Option.{none-some, slice_get_within}
use Rattle.cpl_comp.proofs.ChangeFacts.{changed-other}
use Rattle.cpl_comp.proofs.HeldFacts.{from-some}
use Rattle.cpl_comp.specs.Readings.{EntryAnswers}
use Rattle.cpl_comp.specs.RunFaults.{Fault, lesser}
use Rattle.cpl_comp.specs.Turns.{Turn, comp_after_run, places_of}
use Rattle.cpl_comp.specs.declared.component.Role.TheVariants.{Export}
use Rattle.cpl_comp.specs.declared.component.Comp.{Comp}
use Rattle.cpl_marks.specs.Faults.{least_fault}
use Rattle.cpl_phase.specs.Locals.{IsAged}
use Rattle.cpl_phase.specs.declared.local.LocalComp.{LocalComp}
use Rattle.cpl_script.specs.Couplings.{Coupling}
use Rattle.cpl_script.specs.Operations.{ops_of}
use Rattle.cpl_script.specs.SerialRun.{asked_rows, comp_stop, found_by, found_in, op_factor, phase_rows, rows_of, total_of}
use Rattle.cpl_script.specs.SerialRun.{trace_row, world_after, world_before}
use Rattle.cpl_script.specs.Sound.{IsCoupling, IsOpOf}
use Rattle.cpl_script.specs.Transfers.{World as SystemWorld, comp_at, no_comp}
use Rattle.cpl_script.specs.declared.outcome.CompEnd.{CompEnd}
use Rattle.cpl_script.specs.declared.outcome.Found.{Found}
use Rattle.cpl_script.specs.declared.outcome.Outcome.{Outcome}
use Rattle.cpl_sequence.specs.declared.op.Op.{Op}
use Rattle.cpl_sequence.specs.declared.op.Op.TheVariants.{Init, Link, Run}
use Rattle.cpl_trace.specs.declared.row.TraceRow.{TraceRow}
use Rattle.cpl_serial.proofs.CodeFacts.{phase_faults-places}
use Rattle.cpl_serial.proofs.EngineFacts.{member-there, world-run}
use Rattle.cpl_serial.proofs.OpFacts.{phase_rows-is}
use Rattle.cpl_serial.proofs.OutcomeFacts.{found-none-more, found_by-run, rows-next, run-settles, world-next}
use Rattle.cpl_serial.specs.Codes.{IsPlaced}
use Rattle.cpl_serial.specs.Engines.{StandForWorld}
use Rattle.cpl_serial.specs.Runs.{HasCome, IsStopped}
use Rattle.cpl_serial.specs.Worlds.{IsMadeFor, op_faults, run_component}
use Rattle.cpl_serial.specs.declared.stop.Stop.{Stop}
use Rattle.cpl_serial.specs.declared.world.World.{World}

-- ---- the least fault

-- the lesser of two things is one of them
lesser-one : {A : Type 0} (P : A → Type 0) (number : A → ℕ) (best found : A) (better : Bool) → P best → P found → P (if better then found else best)
lesser-one P number best found true is_best is_found = is_found
lesser-one P number best found false is_best is_found = is_best

-- a choice of two things that are there
one-some : {A : Type 0} (better : Bool) (best found : A) → Some (if better then found else best) ≡ (if better then Some found else Some best)
one-some true best found = refl
one-some false best found = refl

-- what holds of each holds of the least
least-within : (P : Fault → Type 0) (start : Option Fault) (faults : List Fault) (fault : Fault) → ((f : Fault) → start ≡ Some f → P f) → All P faults
    → least_fault start faults ≡ Some fault → P fault
least-within P start [] fault first each is = first fault is
least-within P None (f ∷ fs) fault first each is =
    least-within P (Some f) fs fault (λ g same. from-some P f g same (All-head P f fs each)) (All-tail P f fs each) is
least-within P (Some best) (f ∷ fs) fault first each is =
    let better = nat_lt f.place best.place in
    least-within P (lesser (λ (f : Fault). f.place) (Some best) f) fs fault
    (λ g same. from-some P (if better then f else best) g (one-some better best f ∙ same) (lesser-one P (λ (f : Fault). f.place) best f better (first best refl) (All-head P f fs each)))
    (All-tail P f fs each) is

-- ---- one operation

module _ (coupling : Coupling) (entries : EntryAnswers) (world : SystemWorld) where
  -- the least fault by its number is that by its place
  found-least : (k : ℕ) (op : Op)
      → fold (lesser (λ (f : Found). f.code)) None (found_by coupling entries world k op)
      ≡ option_map (found_in k (run_component op)) (least_fault None (op_faults coupling entries world op))
  found-least k (Init component) = refl
  found-least k (Link link at_init) = refl
  found-least k (Run component phase time step at substep first last) =
      found_by-run coupling entries world k component phase
      (record { time = time; step = step; at = at; substep = substep; first = first; last = last })

  -- the operation of a fault leaves all components but its own
  pub stop-others : (op : Op) (fault : Fault) → IsOpOf coupling op → least_fault None (op_faults coupling entries world op) ≡ Some fault
      → (c : ℕ) → c ≢ run_component op → comp_at (world_after coupling entries world op) c ≡ comp_at world c
  stop-others (Init component) fault of least c other = absurd (none-some fault least)
  stop-others (Link link at_init) fault of least c other = absurd (none-some fault least)
  stop-others (Run component phase time step at substep first last) fault of least c other =
      let stage = member-there of.comp.phases phase of.phase_below in
      let turn : Turn = record { time = time; step = step; at = at; substep = substep; first = first; last = last } in
      ap (λ (w : SystemWorld). comp_at w c) (world-run coupling entries world component phase turn of.comp stage.member of.there stage.stands)
      ∙ changed-other (comp_after_run coupling.timing entries of.comp stage.member turn) component c world no_comp other

  -- its fault has a place below the factor of operations
  pub fault-placed : IsCoupling coupling → (op : Op) (fault : Fault) → least_fault None (op_faults coupling entries world op) ≡ Some fault → fault.place < op_factor
  fault-placed is (Init component) fault least = absurd (none-some fault least)
  fault-placed is (Link link at_init) fault least = absurd (none-some fault least)
  fault-placed is (Run component phase time step at substep first last) fault least =
      let turn : Turn = record { time = time; step = step; at = at; substep = substep; first = first; last = last } in
      least-within IsPlaced None (op_faults coupling entries world (Run component phase time step at substep first last)) fault (λ f none. absurd (none-some f none))
      (phase_faults-places coupling entries is world component phase turn) least

-- the component of an operation is there
pub run-below : (coupling : Coupling) → IsCoupling coupling → (op : Op) → IsOpOf coupling op → run_component op < length coupling.comps
run-below coupling is (Init component) of = omega (arith, is.comps.some)
run-below coupling is (Link link at_init) of = omega (arith, is.comps.some)
run-below coupling is (Run component phase time step at substep first last) of = slice_get_within coupling.comps component of.comp of.there

-- no rows that are asked for
pub asked-none : (trace : Bool) → asked_rows trace [] ≡ []
asked-none true = refl
asked-none false = refl

-- rows that are asked for, with more
asked-append : (trace : Bool) (xs ys : List TraceRow) → asked_rows trace (xs ++ ys) ≡ asked_rows trace xs ++ asked_rows trace ys
asked-append true xs ys = refl
asked-append false xs ys = refl

-- the rows of an operation that ends a step of a component
pub rows-asked : (coupling : Coupling) (w : SystemWorld) (k : ℕ) (op : Op) (component phase : ℕ) (time step at substep : ℤ) (first last trace : Bool)
    → op ≡ Run component phase time step at substep first last → trace ≡ true → last ≡ true
    → (comp : Comp) → slice_get coupling.comps component ≡ Some comp
    → asked_rows trace (rows_of coupling w k op) ≡ map (trace_row k component phase comp.decomp (comp_at w component).fields) (places_of Export comp.fields)
rows-asked coupling w k op component phase time step at substep first last trace op_is asked ends comp there =
    ap (λ t. asked_rows t (rows_of coupling w k op)) asked ∙ ap (rows_of coupling w k) op_is
    ∙ ap (λ b. if b then phase_rows coupling w k component phase else []) ends ∙ phase_rows-is coupling w k component phase comp there

module _ (coupling : Coupling) (entries : EntryAnswers) (k : ℕ) (op : Op) (there : slice_get (ops_of coupling) k ≡ Some op) where
  -- the world before an operation, and the one before the next
  abbrev world_now : SystemWorld
  world_now = world_before coupling entries k

  pub stand-next : (locals : List LocalComp) → StandForWorld coupling (world_after coupling entries world_now op) locals → StandForWorld coupling (world_before coupling entries (k + 1)) locals
  stand-next locals stand = subst (λ w. StandForWorld coupling w locals) (sym (world-next coupling entries (ops_of coupling) k op there)) stand

  module _ (trace : Bool) (old : World) (rows : List TraceRow) (come : HasCome coupling entries trace k old rows) where
    -- an operation without a fault
    pub come-more : (new : World) (more : List TraceRow) → IsMadeFor coupling new → All (IsAged (k + 1)) new.comps
        → StandForWorld coupling (world_after coupling entries world_now op) new.comps
        → least_fault None (op_faults coupling entries world_now op) ≡ None
        → more ≡ rows ++ asked_rows trace (rows_of coupling (world_before coupling entries (k + 1)) k op)
        → HasCome coupling entries trace (k + 1) new more
    come-more new more made aged stand least is = record {
      before = record { made = made; aged = aged; stands = stand-next new.comps stand };
      faultless = found-none-more coupling entries (ops_of coupling) k op there come.faultless
          (found-least coupling entries world_now k op ∙ ap (option_map (found_in k (run_component op))) least);
      traced = is ∙ ap (λ (xs : List TraceRow). xs ++ asked_rows trace (rows_of coupling (world_before coupling entries (k + 1)) k op)) come.traced
          ∙ sym (asked-append trace (total_of coupling entries (take k (ops_of coupling))).rows (rows_of coupling (world_before coupling entries (k + 1)) k op))
          ∙ ap (asked_rows trace) (sym (rows-next coupling entries (ops_of coupling) k op there));
    }

    -- an operation with a fault
    pub stop-is : IsCoupling coupling → (fault : Fault) → least_fault None (op_faults coupling entries world_now op) ≡ Some fault
        → (stop : Stop) → stop.op ≡ k → stop.found ≡ found_in k (run_component op) fault → stop.comps ≡ map comp_stop world_now
        → IsStopped coupling entries trace rows stop
    stop-is is fault least stop op_is found_is comps_are =
        let found = found_in k (run_component op) fault in
        let outcome : ℕ → List CompEnd → Found → List TraceRow → Outcome = λ done comps found rows. record { done = done; comps = comps; fault = Some found; trace = rows } in
        run-settles coupling entries is k op there found come.faultless
        (found-least coupling entries world_now k op ∙ ap (option_map (found_in k (run_component op))) least) trace
        ∙ (λ i. outcome (sym op_is i) (sym comps_are i) (sym found_is i) (sym come.traced i))
