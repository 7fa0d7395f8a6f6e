-- What is left of elements and loops.
use Rattle.std.proofs.Common.{◌≡◌, ℕ, zero, suc, ◌+◌, ◌*◌, ◌/◌, ◌%◌, ◌<◌, ◌≤◌, true, List, [], ◌∷◌, ◌++◌, length, drop, Option, Some, None, refl, sym, ap, ◌∙◌, subst, inl, inr, arith, append-nil, zero-add}
use Rattle.std.specs.Prelude.{MatchOption, option_to_list, slice_get}
use Rattle.std.specs.List.{flat_map, list_all}
use Rattle.std.proofs.lemmas.Bool.{cases_lt, false≢true}
use Rattle.std.proofs.lemmas.List.{drop_all, drop_more}
use Rattle.std.proofs.lemmas.List.FromFn.{get_or-range_with_len, length-range_with_len}
use Rattle.std.proofs.lemmas.Nat.{div-add-mod'}
use Rattle.std.proofs.lemmas.Option.{slice_get_within, get_or_from_slice_get}
use Rattle.cpl_sequence.specs.Remainder.{FitsElement, FitsLoop, FitsStep, remainder_of, remainder_at, remainder_step, start_frame}
use Rattle.cpl_sequence.specs.Sound.{is_nested, is_substep, is_timed}
use Rattle.cpl_sequence.specs.Turns.{start_frames}
use Rattle.cpl_sequence.specs.Operations.{iterations, run_ops, element_ops, body_ops, numbers_below}
use Rattle.cpl_sequence.specs.declared.element.Element.{Element, roll-Element}
use Rattle.cpl_sequence.specs.declared.element.Element.TheOpen.{Element-F, Link, Run, Loop}
use Rattle.cpl_sequence.specs.declared.element.Element.TheViews.{out-roll-Element}
use Rattle.cpl_sequence.specs.declared.frame.Frame.{Frame}
use Rattle.cpl_sequence.specs.declared.op.Op.{Op}
use Rattle.cpl_sequence.proofs.OperationSizes.{length-run_ops}
use Rattle.cpl_sequence.proofs.SoundFacts.{IsLoop, inner_from, list_all-get_or, part_from}
use Rattle.cpl_sequence.proofs.TreeFacts.{induction, is_nested-Loop, is_nested-Loop_zero, is_timed-Run, element_ops-Link, element_ops-Loop, element_ops-Run}

-- what is left of a rolled element is what is left of its layer
pub remainder_of-roll : (frame : Frame) (frames : List Frame) (x : Element-F Element) (time step : ℕ) → remainder_of (frame ∷ frames) (roll-Element x) time step ≡ remainder_step frame (remainder_of frames) x time step
remainder_of-roll frame frames x time step = ap (λ y. remainder_step frame (remainder_of frames) y time step) (out-roll-Element x)

-- and frames fit it where they fit the layer
pub fits-roll : (frame : Frame) (frames : List Frame) (x : Element-F Element) (step : ℕ) → FitsStep frame (FitsElement frames) x step → FitsElement (frame ∷ frames) (roll-Element x) step
fits-roll frame frames x step fits = subst (λ y. FitsStep frame (FitsElement frames) y step) (sym (out-roll-Element x)) fits

-- an element that fits in a loop of a step, with so many levels of loops
pub record IsReady (levels : ℕ) (e : Element) (step : ℕ) : Type 0 where
  pub timed : is_timed e step ≡ true
  pub nested : is_nested e levels ≡ true
  pub some : 0 < step

-- frames at their beginning leave all of an element
pub record IsStarted (frames : List Frame) (e : Element) (step : ℕ) : Type 0 where
  pub all : (time : ℕ) → remainder_of frames e time step ≡ element_ops e time step
  pub fits : FitsElement frames e step

-- lists behind the place of a member, that member first
pub drop_get : {A : Type 0} (xs : List A) (n : ℕ) (x : A) → slice_get xs n ≡ Some x → drop n xs ≡ x ∷ drop (n + 1) xs
drop_get xs n x got = drop_more xs n x (slice_get_within xs n x got) ∙ ap (λ y. y ∷ drop (n + 1) xs) (get_or_from_slice_get xs n x x got)

-- the rest of a body, from an element on that is whole
pub left_from : (frames : List Frame) (body : List Element) (place : ℕ) (e : Element) (now step : ℕ) → slice_get body place ≡ Some e → remainder_of frames e now step ≡ element_ops e now step → (remainder_of frames e now step ++ []) ++ body_ops (drop (place + 1) body) now step ≡ body_ops (drop place body) now step
left_from frames body place e now step got whole =
    ap (λ ops. ops ++ body_ops (drop (place + 1) body) now step) (append-nil (remainder_of frames e now step) ∙ whole)
    ∙ ap (λ es. body_ops es now step) (sym (drop_get body place e got))

-- the later iterations of a loop, the next one first
pub later_more : (body : ℕ → List Op) (count round : ℕ) → round < count → flat_map body (drop round (numbers_below count)) ≡ body round ++ flat_map body (drop (round + 1) (numbers_below count))
later_more body count round inside =
    ap (flat_map body) (drop_more (numbers_below count) round 0 (omega (arith, length-range_with_len 0 count)))
    ∙ ap (λ n. body n ++ flat_map body (drop (round + 1) (numbers_below count))) (get_or-range_with_len 0 count round 0 inside ∙ zero-add round)

-- past the last there are none
pub later_none : (body : ℕ → List Op) (count round : ℕ) → count ≤ round → flat_map body (drop round (numbers_below count)) ≡ []
later_none body count round past = ap (flat_map body) (drop_all round (numbers_below count) (omega (arith, length-range_with_len 0 count)))

-- a part of a step stands in it at least once
part_once : (part step : ℕ) → 0 < part → step % part ≡ 0 → 0 < step → 0 < step / part
part_once part step some exact lasts = elim (cases_lt 0 (step / part)) [
  | inl once ↦ once
  | inr never ↦
      let none : step / part ≡ 0 = omega arith in
      absurd (omega (arith, div-add-mod' step part, ap (λ n. n * part) none))
]

-- a phase has an operation
runs_some : (component phase time : ℕ) (substep : Option ℕ) (step : ℕ) → is_substep substep step ≡ true → 0 < step → 0 < length (run_ops component phase time step substep)
runs_some component phase time None step parted some = omega arith
runs_some component phase time (Some substep) step parted some =
    let part = part_from substep step parted in
    omega (arith, length-run_ops component phase time step (Some substep), part_once substep step part.some part.exact some)

-- what is left of a loop, at the element at which its frame stands
pub loop_left : (frame : Frame) (frames : List Frame) (step duration : ℕ) (body : List Element) (time : ℕ) (e : Element) → slice_get body frame.place ≡ Some e → remainder_at frame (remainder_of frames) step duration body time ≡ ((remainder_of frames e (time + frame.round * step) step ++ []) ++ body_ops (drop (frame.place + 1) body) (time + frame.round * step) step) ++ flat_map (λ n. body_ops body (time + n * step) step) (drop (frame.round + 1) (numbers_below (duration / step)))
loop_left frame frames step duration body time e got =
    ap (λ o. (flat_map (λ x. remainder_of frames x (time + frame.round * step) step) (option_to_list o) ++ body_ops (drop (frame.place + 1) body) (time + frame.round * step) step) ++ flat_map (λ n. body_ops body (time + n * step) step) (drop (frame.round + 1) (numbers_below (duration / step)))) got

-- a frame fits a loop, where the frames below fit the element at which it stands
pub loop_fits : (frame : Frame) (frames : List Frame) (step duration : ℕ) (body : List Element) (e : Element) → slice_get body frame.place ≡ Some e → frame.round < duration / step → FitsElement frames e step → FitsLoop frame (FitsElement frames) step duration body
loop_fits frame frames step duration body e got round fits =
    (round, subst (λ o. MatchOption o ⊥ (λ x. FitsElement frames x step)) (sym got) fits)

-- frames at the beginning of a round, or behind an element of it, leave all from there on
pub loop_left_from : (frame : Frame) (frames : List Frame) (step duration : ℕ) (body : List Element) (time : ℕ) (e : Element) → slice_get body frame.place ≡ Some e → remainder_of frames e (time + frame.round * step) step ≡ element_ops e (time + frame.round * step) step → remainder_at frame (remainder_of frames) step duration body time ≡ body_ops (drop frame.place body) (time + frame.round * step) step ++ flat_map (λ n. body_ops body (time + n * step) step) (drop (frame.round + 1) (numbers_below (duration / step)))
loop_left_from frame frames step duration body time e got whole =
    loop_left frame frames step duration body time e got
    ∙ ap (λ ops. ops ++ flat_map (λ n. body_ops body (time + n * step) step) (drop (frame.round + 1) (numbers_below (duration / step)))) (left_from frames body frame.place e (time + frame.round * step) step got whole)

-- a link at its beginning
started_Link : (frames : List Frame) (link step : ℕ) → IsStarted (start_frame ∷ frames) (roll-Element (Link link)) step
started_Link frames link step = record {
  all = λ time. remainder_of-roll start_frame frames (Link link) time step ∙ sym (element_ops-Link link time step);
  fits = fits-roll start_frame frames (Link link) step tt;
}

-- a run
started_Run : (frames : List Frame) (component phase : ℕ) (substep : Option ℕ) (step : ℕ) → is_substep substep step ≡ true → 0 < step → IsStarted (start_frame ∷ frames) (roll-Element (Run component phase substep)) step
started_Run frames component phase substep step parted some = record {
  all = λ time. remainder_of-roll start_frame frames (Run component phase substep) time step ∙ sym (element_ops-Run component phase substep time step);
  fits = fits-roll start_frame frames (Run component phase substep) step (runs_some component phase 0 substep step parted some);
}

-- the first round of a loop
pub started_loop : (frames : List Frame) (step duration : ℕ) (body : List Element) (time : ℕ) (e : Element) → 0 < duration / step → slice_get body 0 ≡ Some e → IsStarted frames e step → remainder_at start_frame (remainder_of frames) step duration body time ≡ iterations (λ now. body_ops body now step) step duration time
started_loop frames step duration body time e rounds got begun =
    loop_left_from start_frame frames step duration body time e got (begun.all (time + 0 * step))
    ∙ sym (later_more (λ n. body_ops body (time + n * step) step) (duration / step) 0 rounds)

-- a loop
started_Loop : (frames : List Frame) (inner duration : ℕ) (body : List Element) (step : ℕ) (e : Element) → 0 < duration / inner → slice_get body 0 ≡ Some e → IsStarted frames e inner → IsStarted (start_frame ∷ frames) (roll-Element (Loop inner duration body)) step
started_Loop frames inner duration body step e rounds got begun = record {
  all = λ time. remainder_of-roll start_frame frames (Loop inner duration body) time step ∙ started_loop frames inner duration body time e rounds got begun ∙ sym (element_ops-Loop inner duration body time step);
  fits = fits-roll start_frame frames (Loop inner duration body) step (loop_fits start_frame frames inner duration body e got rounds begun.fits);
}

-- a loop that isn't empty has as many levels as its elements, and one more
pub record IsBody (levels : ℕ) (step duration : ℕ) (body : List Element) : Type 0 where
  pub some : 0 < length body
  pub loop : IsLoop (λ e. is_timed e step) step duration body
  pub nested : list_all (λ e. is_nested e levels) body ≡ true

-- its elements are ready
pub ready : (levels step duration : ℕ) (body : List Element) (place : ℕ) (e : Element) → IsBody levels step duration body → slice_get body place ≡ Some e → IsReady levels e step
ready levels step duration body place e is got =
    let inside = slice_get_within body place e got in
    let same = get_or_from_slice_get body place e e got in
    record {
      timed = sym (ap (λ x. is_timed x step) same) ∙ list_all-get_or (λ x. is_timed x step) body place e inside is.loop.each;
      nested = sym (ap (λ x. is_nested x levels) same) ∙ list_all-get_or (λ x. is_nested x levels) body place e inside is.nested;
      some = is.loop.step_some;
    }

-- it has a round
pub rounds_some : (levels step duration : ℕ) (body : List Element) → IsBody levels step duration body → 0 < duration / step
rounds_some levels step duration body is = part_once step duration is.loop.step_some is.loop.exact is.loop.lasts

-- and a first element
pub first_of : (levels step duration : ℕ) (body : List Element) → IsBody levels step duration body → (e : Element) × (slice_get body 0 ≡ Some e)
first_of levels step duration [] is = absurd (omega (arith, is.some))
first_of levels step duration (e ∷ es) is = (e, refl)

-- a loop with levels has a body with one level less
pub body_of : (levels inner duration : ℕ) (body : List Element) (step : ℕ) → IsReady levels (roll-Element (Loop inner duration body)) step → (below : ℕ) × (levels ≡ suc below) × IsBody below inner duration body
body_of zero inner duration body step is = absurd (false≢true (sym (is_nested-Loop_zero inner duration body) ∙ is.nested))
body_of (suc below) inner duration body step is = (
  below,
  refl,
  record {
    some = (inner_from inner duration body step is.timed).some;
    loop = (inner_from inner duration body step is.timed).loop;
    nested = sym (is_nested-Loop inner duration body below) ∙ is.nested;
  },
)

-- an element at its beginning
pub started_all : (frames : List Frame) (levels : ℕ) → length frames ≡ suc levels → (e : Element) (step : ℕ) → IsReady levels e step → IsStarted (start_frames frames) e step
started_all [] levels is e step = absurd (omega arith)
started_all (frame ∷ frames) levels is e step =
    induction (λ x. IsReady levels x step → IsStarted (start_frames (frame ∷ frames)) x step)
    (λ link ready. started_Link (start_frames frames) link step)
    (λ component phase substep ready. started_Run (start_frames frames) component phase substep step (sym (is_timed-Run component phase substep step) ∙ ready.timed) ready.some)
    (λ inner duration body each is_ready.
    let body_is = body_of levels inner duration body step is_ready in
    let first = first_of body_is.0 inner duration body body_is.2 in
    let below = ready body_is.0 inner duration body 0 first.0 body_is.2 first.1 in
    started_Loop (start_frames frames) inner duration body step first.0 (rounds_some body_is.0 inner duration body body_is.2) first.1
    (started_all frames body_is.0 (omega (arith, body_is.1)) first.0 inner below))
    e
