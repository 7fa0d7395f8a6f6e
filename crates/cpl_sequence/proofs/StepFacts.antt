-- What the code of a cursor's steps asks and gives.
use Rattle.std.proofs.Common.{◌≡◌, ℕ, zero, suc, ◌+◌, ◌*◌, ◌-◌, ◌/◌, ◌^◌, ◌<◌, ◌≤◌, true, List, [], ◌∷◌, length, drop, get_or, Option, Some, None, refl, sym, ap, ◌∙◌, subst, arith, length-drop}
use Rattle.std.specs.Prelude.{MatchOption, false, slice_get, unwrap_or}
use Rattle.std.specs.List.{list_all}
use Rattle.std.proofs.lemmas.Bool.{false≢true}
use Rattle.std.proofs.lemmas.Option.{get_or_from_slice_get, slice_get_within}
use Rattle.std.proofs.Math.Nat.{div-le_self, div-mul-le_self, div_self, mul-le-mul_right}
use Rattle.cpl_sequence.specs.Remainder.{FitsElement, FitsIn, FitsStep, start_frame}
use Rattle.cpl_sequence.specs.Sound.{is_loop, is_nested, is_timed}
use Rattle.cpl_sequence.specs.Turns.{StepsElement, StepsLoop, turn_of}
use Rattle.cpl_sequence.specs.Operations.{run_ops}
use Rattle.cpl_sequence.specs.declared.element.Element.{Element, out-Element, roll-Element}
use Rattle.cpl_sequence.specs.declared.element.Element.TheOpen.{Run, Loop}
use Rattle.cpl_sequence.specs.declared.element.Element.TheVariants.{Link as LinkVariant, Run as RunVariant, Loop as LoopVariant}
use Rattle.cpl_sequence.specs.declared.element.Element.TheViews.{out-roll-Element}
use Rattle.cpl_sequence.specs.declared.frame.Frame.{Frame}
use Rattle.cpl_sequence.specs.declared.frame.Step.{Step}
use Rattle.cpl_sequence.specs.declared.frame.Turn.{Turn}
use Rattle.cpl_sequence.specs.declared.op.Op.{Op}
use Rattle.cpl_sequence.specs.declared.op.Op.TheVariants.{Link as LinkOp}
use Rattle.cpl_sequence.proofs.RemainderFacts.{IsBody}
use Rattle.cpl_sequence.proofs.OperationSizes.{length-run_ops}
use Rattle.cpl_sequence.specs.Marks.{run_count}
use Rattle.cpl_sequence.proofs.SoundFacts.{inner_at, list_all-get_or, loop_from}
use Rattle.cpl_sequence.proofs.TurnFacts.{IsStanding, step_in, step_Link, step_Loop, step_Run}
use Rattle.cpl_sequence.proofs.TreeFacts.{at_Link, at_Loop, at_Run, is_nested-Loop, is_nested-Loop_zero}

-- the outermost frame
abbrev pub first : List Frame → Frame
first frames = get_or frames 0 start_frame

-- ---- a link

-- a link is a step by itself
pub returns_Link : (frames : List Frame) (e : Element) (link time step : ℕ) → e ≡ LinkVariant link → FitsElement frames e step → StepsElement frames e time step (record { op = LinkOp link false; turn = None })
returns_Link [] e link time step is fits = absurd fits
returns_Link (frame ∷ frames) e link time step is fits = rw (at_Link e link is) (step_Link frame frames link time step)

-- ---- a run

-- frames that fit a run are at one of its operations
pub round_Run : (frames : List Frame) (e : Element) (component phase : ℕ) (substep : Option ℕ) (time step : ℕ) → e ≡ RunVariant component phase substep → FitsElement frames e step → (first frames).round < length (run_ops component phase time step substep)
round_Run [] e component phase substep time step is fits = absurd fits
round_Run (frame ∷ frames) e component phase substep time step is fits =
    let layer : out-Element e ≡ Run component phase substep = ap out-Element (at_Run e component phase substep is) ∙ out-roll-Element (Run component phase substep) in
    let here : FitsStep frame (FitsElement frames) (Run component phase substep) step = subst (λ x. FitsStep frame (FitsElement frames) x step) layer fits in
    rw (length-run_ops component phase time step substep, ← length-run_ops component phase 0 step substep) here

-- there are no more than seconds in the step
runs_few : (substep : Option ℕ) (step : ℕ) → 0 < step → run_count substep step ≤ step
runs_few None step some = omega arith
runs_few (Some substep) step some = div-le_self step substep

-- a number of a run is below the step
pub round_few : (frames : List Frame) (e : Element) (component phase : ℕ) (substep : Option ℕ) (step : ℕ) → e ≡ RunVariant component phase substep → FitsElement frames e step → 0 < step → (first frames).round < step
round_few frames e component phase substep step is fits some =
    omega (arith, round_Run frames e component phase substep 0 step is fits, length-run_ops component phase 0 step substep, runs_few substep step some)

-- how many there are, by division
runs_by : (substep : Option ℕ) (step : ℕ) → 0 < step → run_count substep step ≡ step / unwrap_or substep step
runs_by None step some = sym (div_self some)
runs_by (Some substep) step some = refl

-- a run steps to its next operation
pub returns_Run : (frames : List Frame) (e : Element) (component phase : ℕ) (substep : Option ℕ) (time step part : ℕ) (op : Op) (turn : Option Turn) → e ≡ RunVariant component phase substep → FitsElement frames e step → 0 < step → part ≡ unwrap_or substep step → slice_get (run_ops component phase time step substep) (first frames).round ≡ Some op → turn ≡ turn_of None (record { place = 0; round = (first frames).round }) 1 (step / part) → StepsElement frames e time step (record { op = op; turn = turn })
returns_Run [] e component phase substep time step part op turn is fits some part_is got turned = absurd fits
returns_Run (frame ∷ frames) e component phase substep time step part op turn is fits some part_is got turned =
    rw (turned, part_is, at_Run e component phase substep is)
    (step_Run frame frames component phase substep time step (step / unwrap_or substep step) op (λ from. length-run_ops component phase from step substep ∙ runs_by substep step some) got)

-- ---- a loop in a loop

-- what such a loop gives the step of its own
pub record IsEntered (frames : List Frame) (step duration : ℕ) (body : List Element) (time : ℕ) : Type 0 where
  pub timed : is_loop (λ e. is_timed e step) step duration body ≡ true
  pub nested : list_all (λ e. is_nested e (length frames - 2)) body ≡ true
  pub early : time + duration ≤ 2 ^ 40
  pub fits : FitsIn frames step duration body

-- a level of loops less
nested_less : (inner duration : ℕ) (body : List Element) (levels below : ℕ) → levels - 1 ≡ below → is_nested (roll-Element (Loop inner duration body)) levels ≡ true → list_all (λ e. is_nested e below) body ≡ true
nested_less inner duration body zero below is nested = absurd (false≢true (sym (is_nested-Loop_zero inner duration body) ∙ nested))
nested_less inner duration body (suc levels) below is nested =
    let same : levels ≡ below = omega arith in
    rw (← same) (sym (is_nested-Loop inner duration body levels) ∙ nested)

-- frames that fit it fit it by itself
pub entered : (frames : List Frame) (e : Element) (inner duration : ℕ) (body : List Element) (time step : ℕ) → e ≡ LoopVariant inner duration body → is_timed e step ≡ true → is_nested e (length frames - 1) ≡ true → time + step ≤ 2 ^ 40 → FitsElement frames e step → IsEntered frames inner duration body time
entered [] e inner duration body time step is timed nested early fits = absurd fits
entered (frame ∷ frames) e inner duration body time step is timed nested early fits =
    let sound = inner_at e inner duration body step is timed in
    let layer : out-Element e ≡ Loop inner duration body = ap out-Element (at_Loop e inner duration body is) ∙ out-roll-Element (Loop inner duration body) in
    record {
      timed = sound.passed;
      nested = nested_less inner duration body (length (frame ∷ frames) - 1) (length (frame ∷ frames) - 2) (omega arith) (sym (ap (λ x. is_nested x (length (frame ∷ frames) - 1)) (at_Loop e inner duration body is)) ∙ nested);
      early = omega (arith, sound.within);
      fits = subst (λ x. FitsStep frame (FitsElement frames) x step) layer fits;
    }

-- and what its step gives is a step of the element
pub returns_Loop : (frames : List Frame) (e : Element) (inner duration : ℕ) (body : List Element) (time step : ℕ) (made : Step) → e ≡ LoopVariant inner duration body → StepsLoop frames inner duration body time made → StepsElement frames e time step made
returns_Loop frames e inner duration body time step made is steps = rw (at_Loop e inner duration body is) (step_Loop frames inner duration body time step made steps)

-- ---- a loop

-- a member that is found
found_at : (o : Option Element) (frames : List Frame) (step : ℕ) → MatchOption o ⊥ (λ x. FitsElement frames x step) → (x : Element) × (o ≡ Some x) × FitsElement frames x step
found_at None frames step fits = absurd fits
found_at (Some x) frames step fits = (x, refl, fits)

-- the element at which frames of a loop stand
pub record IsInside (frames : List Frame) (step duration : ℕ) (body : List Element) (e : Element) : Type 0 where
  pub stands : IsStanding (first frames) (drop 1 frames) step duration body e
  pub fits : FitsElement (drop 1 frames) e step

-- there is one
pub stands_inside : (frames : List Frame) (step duration : ℕ) (body : List Element) (e : Element) → FitsIn frames step duration body → e ≡ get_or body (first frames).place e → IsInside frames step duration body e
stands_inside [] step duration body e fits is = absurd fits
stands_inside (frame ∷ frames) step duration body e fits is =
    let found = found_at (slice_get body frame.place) frames step fits.1 in
    let same : found.0 ≡ e = sym (get_or_from_slice_get body frame.place found.0 e found.1) ∙ sym is in
    record {
      stands = record { got = found.1 ∙ ap Some same; round = fits.0 };
      fits = subst (λ x. FitsElement frames x step) same found.2;
    }

-- it steps by that element
pub returns_in : (frames below : List Frame) (step duration : ℕ) (body : List Element) (time : ℕ) (e : Element) (made : Step) (turn : Option Turn) → below ≡ drop 1 frames → is_loop (λ x. is_timed x step) step duration body ≡ true → list_all (λ x. is_nested x (length frames - 2)) body ≡ true → IsInside frames step duration body e → StepsElement below e (time + (first frames).round * step) step made → turn ≡ turn_of made.turn (first frames) (length body) (duration / step) → StepsLoop frames step duration body time (record { op = made.op; turn = turn })
returns_in [] below step duration body time e made turn is timed nested inside steps turned = absurd inside.fits
returns_in (frame ∷ []) below step duration body time e made turn is timed nested inside steps turned = absurd inside.fits
returns_in (frame ∷ next ∷ frames) below step duration body time e made turn is timed nested inside steps turned =
    let levels : length (frame ∷ next ∷ frames) - 2 ≡ length frames = omega arith in
    let within = slice_get_within body frame.place e inside.stands.got in
    let sound : IsBody (length frames) step duration body = record {
      some = omega arith;
      loop = loop_from (λ x. is_timed x step) step duration body timed;
      nested = rw (← levels) nested;
    } in
    let here : StepsElement (next ∷ frames) e (time + frame.round * step) step made = subst (λ xs. StepsElement xs e (time + frame.round * step) step made) is steps in
    rw turned (step_in made.turn frame (next ∷ frames) (length frames) step duration body time made.op e refl sound inside.stands here)

-- what a loop gives the step of the element at which it stands
pub record IsElement (below : List Frame) (e : Element) (time step : ℕ) : Type 0 where
  pub timed : is_timed e step ≡ true
  pub nested : is_nested e (length below - 1) ≡ true
  pub some : 0 < step
  pub early : time + step ≤ 2 ^ 40
  pub fits : FitsElement below e step

-- so many rounds fit in the duration
round_fits : (round step duration : ℕ) → round < duration / step → round * step + step ≤ duration
round_fits round step duration inside =
    omega (arith, mul-le-mul_right step (let h : suc round ≤ duration / step = omega arith in h), div-mul-le_self duration step)

-- the step of a loop may step in the element at which it stands
pub entered_element : (frames below : List Frame) (step duration : ℕ) (body : List Element) (time : ℕ) (e : Element) → below ≡ drop 1 frames → is_loop (λ x. is_timed x step) step duration body ≡ true → list_all (λ x. is_nested x (length frames - 2)) body ≡ true → time + duration ≤ 2 ^ 40 → IsInside frames step duration body e → IsElement below e (time + (first frames).round * step) step
entered_element frames below step duration body time e is timed nested early inside =
    let loop = loop_from (λ x. is_timed x step) step duration body timed in
    let got = inside.stands.got in
    let place = (first frames).place in
    let within = slice_get_within body place e got in
    let same = get_or_from_slice_get body place e e got in
    let levels : length (drop 1 frames) - 1 ≡ length frames - 2 = omega (arith, length-drop 1 frames) in
    rw is (record {
      timed = sym (ap (λ x. is_timed x step) same) ∙ list_all-get_or (λ x. is_timed x step) body place e within loop.each;
      nested = rw levels (sym (ap (λ x. is_nested x (length frames - 2)) same) ∙ list_all-get_or (λ x. is_nested x (length frames - 2)) body place e within nested);
      some = loop.step_some;
      early = omega (arith, round_fits (first frames).round step duration inside.stands.round);
      fits = inside.fits;
    })
