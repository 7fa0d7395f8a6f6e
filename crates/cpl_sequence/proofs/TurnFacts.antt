-- The steps of a cursor.
use Rattle.std.proofs.Common.{◌≡◌, ℕ, zero, suc, ◌+◌, ◌*◌, ◌/◌, ◌<◌, ◌≤◌, List, [], ◌∷◌, ◌++◌, length, drop, Option, Some, None, IfSome, refl, sym, ap, ◌∙◌, inl, inr, arith, add-one}
use Rattle.std.specs.Prelude.{false, slice_get}
use Rattle.std.specs.List.{flat_map}
use Rattle.std.specs.Option.{option_map_or}
use Rattle.std.proofs.lemmas.Bool.{cases_lt, le-ltb, lt-ltb}
use Rattle.std.proofs.lemmas.List.{drop_all}
use Rattle.cpl_sequence.specs.Remainder.{FitsElement, FitsIn, remainder_in, remainder_of}
use Rattle.cpl_sequence.specs.Turns.{StepsElement, StepsLoop, next_frame, start_frames, turn_of, turned_frames}
use Rattle.cpl_sequence.specs.Operations.{run_ops, body_ops, numbers_below}
use Rattle.cpl_sequence.specs.declared.element.Element.{Element, roll-Element}
use Rattle.cpl_sequence.specs.declared.element.Element.TheOpen.{Link, Run, Loop}
use Rattle.cpl_sequence.specs.declared.frame.Frame.{Frame}
use Rattle.cpl_sequence.specs.declared.frame.Step.{Step}
use Rattle.cpl_sequence.specs.declared.frame.Turn.{Turn}
use Rattle.cpl_sequence.specs.declared.op.Op.{Op}
use Rattle.cpl_sequence.specs.declared.op.Op.TheVariants.{Link as LinkOp}
use Rattle.cpl_sequence.proofs.RemainderFacts.{IsBody, drop_get, fits-roll, later_more, later_none, remainder_of-roll, loop_fits, loop_left, loop_left_from, ready, started_all}

-- ---- the next frame

-- the frame of the next element
pub next_place : (frame : Frame) (places rounds : ℕ) → frame.place + 1 < places → next_frame frame places rounds ≡ Some (record { place = frame.place + 1; round = frame.round })
next_place frame places rounds inside = rw (lt-ltb (frame.place + 1) places inside) refl

-- the frame of the next round
pub next_round : (frame : Frame) (places rounds : ℕ) → places ≤ frame.place + 1 → frame.round + 1 < rounds → next_frame frame places rounds ≡ Some (record { place = 0; round = frame.round + 1 })
next_round frame places rounds last inside = rw (le-ltb (frame.place + 1) places last, lt-ltb (frame.round + 1) rounds inside) refl

-- no next frame
pub next_none : (frame : Frame) (places rounds : ℕ) → places ≤ frame.place + 1 → rounds ≤ frame.round + 1 → next_frame frame places rounds ≡ None
next_none frame places rounds last over = rw (le-ltb (frame.place + 1) places last, le-ltb (frame.round + 1) rounds over) refl

-- a member at a place of a list
member_at : {A : Type 0} (xs : List A) (place : ℕ) → place < length xs → (x : A) × (slice_get xs place ≡ Some x)
member_at [] place inside = absurd (omega arith)
member_at (x ∷ xs) zero inside = (x, refl)
member_at (x ∷ xs) (suc place) inside = member_at xs place (omega arith)

-- ---- a loop

-- where a frame of a loop stands
pub record IsStanding (frame : Frame) (frames : List Frame) (step duration : ℕ) (body : List Element) (e : Element) : Type 0 where
  pub got : slice_get body frame.place ≡ Some e
  pub round : frame.round < duration / step

-- the later iterations of a loop, from a round on
abbrev later : (step duration : ℕ) → List Element → (time round : ℕ) → List Op
later step duration body time round = flat_map (λ n. body_ops body (time + n * step) step) (drop round (numbers_below (duration / step)))

-- a turn to a frame of the same loop
turn_here : (frame next : Frame) (frames : List Frame) (levels step duration : ℕ) (body : List Element) (time : ℕ) (op : Op) (e : Element) (rest : List Op) → length frames ≡ suc levels → IsBody levels step duration body → IsStanding next frames step duration body e → remainder_in (frame ∷ frames) step duration body time ≡ op ∷ rest → rest ≡ body_ops (drop next.place body) (time + next.round * step) step ++ later step duration body time (next.round + 1) → StepsLoop (frame ∷ frames) step duration body time (record { op = op; turn = Some (record { level = 0; frame = next }) })
turn_here frame next frames levels step duration body time op e rest is sound stands now same =
    let begun = started_all frames levels is e step (ready levels step duration body next.place e sound stands.got) in
    record {
      gives = now ∙ ap (λ ops. op ∷ ops) (same ∙ sym (loop_left_from next (start_frames frames) step duration body time e stands.got (begun.all (time + next.round * step))));
      fits = loop_fits next (start_frames frames) step duration body e stands.got stands.round begun.fits;
      inside = omega arith;
    }

-- a step in a loop whose element has nothing left
step_over : (frame : Frame) (frames : List Frame) (levels step duration : ℕ) (body : List Element) (time : ℕ) (op : Op) → length frames ≡ suc levels → IsBody levels step duration body → frame.round < duration / step → remainder_in (frame ∷ frames) step duration body time ≡ op ∷ (body_ops (drop (frame.place + 1) body) (time + frame.round * step) step ++ later step duration body time (frame.round + 1)) → StepsLoop (frame ∷ frames) step duration body time (record { op = op; turn = turn_of None frame (length body) (duration / step) })
step_over frame frames levels step duration body time op is sound round now =
    let rest = body_ops (drop (frame.place + 1) body) (time + frame.round * step) step ++ later step duration body time (frame.round + 1) in
    let none = λ (last : length body ≤ frame.place + 1). ap (λ es. body_ops es (time + frame.round * step) step ++ later step duration body time (frame.round + 1)) (drop_all (frame.place + 1) body last) in
    elim (cases_lt (frame.place + 1) (length body)) [
      | inl inside ↦
          let member = member_at body (frame.place + 1) inside in
          rw (next_place frame (length body) (duration / step) inside)
          (turn_here frame (record { place = frame.place + 1; round = frame.round }) frames levels step duration body time op member.0 rest is sound (record { got = member.1; round = round }) now refl)
      | inr last ↦ elim (cases_lt (frame.round + 1) (duration / step)) [
        | inl again ↦
            let member = member_at body 0 sound.some in
            rw (next_round frame (length body) (duration / step) last again)
            (turn_here frame (record { place = 0; round = frame.round + 1 }) frames levels step duration body time op member.0 rest is sound (record { got = member.1; round = again }) now
            (none last ∙ later_more (λ n. body_ops body (time + n * step) step) (duration / step) (frame.round + 1) again))
        | inr over ↦
            rw (next_none frame (length body) (duration / step) last over) (record {
              gives = now ∙ ap (λ ops. op ∷ ops) (none last ∙ later_none (λ n. body_ops body (time + n * step) step) (duration / step) (frame.round + 1) over);
              fits = tt;
              inside = tt;
            })
      ]
    ]

-- a step in a loop, by that of the element at which it stands
pub step_in : (turn : Option Turn) (frame : Frame) (frames : List Frame) (levels step duration : ℕ) (body : List Element) (time : ℕ) (op : Op) (e : Element) → length frames ≡ suc levels → IsBody levels step duration body → IsStanding frame frames step duration body e → StepsElement frames e (time + frame.round * step) step (record { op = op; turn = turn }) → StepsLoop (frame ∷ frames) step duration body time (record { op = op; turn = turn_of turn frame (length body) (duration / step) })
step_in None frame frames levels step duration body time op e is sound stands made =
    let after = body_ops (drop (frame.place + 1) body) (time + frame.round * step) step in
    step_over frame frames levels step duration body time op is sound stands.round
    (loop_left frame frames step duration body time e stands.got
    ∙ ap (λ ops. ((ops ++ []) ++ after) ++ later step duration body time (frame.round + 1)) made.gives)
step_in (Some turn) frame frames levels step duration body time op e is sound stands made =
    let after = body_ops (drop (frame.place + 1) body) (time + frame.round * step) step in
    let below = turned_frames frames turn.level turn.frame in
    rw (add-one turn.level) (record {
      gives =
          loop_left frame frames step duration body time e stands.got
          ∙ ap (λ ops. ((ops ++ []) ++ after) ++ later step duration body time (frame.round + 1)) made.gives
          ∙ ap (λ ops. op ∷ ops) (sym (loop_left frame below step duration body time e stands.got));
      fits = loop_fits frame below step duration body e stands.got stands.round made.fits;
      inside = omega (arith, made.inside);
    })

-- ---- an element

-- frames leave of a loop in a loop what they leave of the loop
pub left_of_Loop : (frames : List Frame) (inner duration : ℕ) (body : List Element) (time step : ℕ) → remainder_of frames (roll-Element (Loop inner duration body)) time step ≡ remainder_in frames inner duration body time
left_of_Loop [] inner duration body time step = refl
left_of_Loop (frame ∷ frames) inner duration body time step = remainder_of-roll frame frames (Loop inner duration body) time step

-- and fit it where they fit that
pub fits_Loop : (frames : List Frame) (inner duration : ℕ) (body : List Element) (step : ℕ) → FitsIn frames inner duration body → FitsElement frames (roll-Element (Loop inner duration body)) step
fits_Loop [] inner duration body step fits = fits
fits_Loop (frame ∷ frames) inner duration body step fits = fits-roll frame frames (Loop inner duration body) step fits

-- a link is a step by itself
pub step_Link : (frame : Frame) (frames : List Frame) (link time step : ℕ) → StepsElement (frame ∷ frames) (roll-Element (Link link)) time step (record { op = LinkOp link false; turn = None })
step_Link frame frames link time step = record {
  gives = remainder_of-roll frame frames (Link link) time step;
  fits = tt;
  inside = tt;
}

-- a run takes one for each substep
pub step_Run : (frame : Frame) (frames : List Frame) (component phase : ℕ) (substep : Option ℕ) (time step rounds : ℕ) (op : Op) → ((from : ℕ) → length (run_ops component phase from step substep) ≡ rounds) → slice_get (run_ops component phase time step substep) frame.round ≡ Some op → StepsElement (frame ∷ frames) (roll-Element (Run component phase substep)) time step (record { op = op; turn = turn_of None (record { place = 0; round = frame.round }) 1 rounds })
step_Run frame frames component phase substep time step rounds op counts got =
    let ops = run_ops component phase time step substep in
    let now = remainder_of-roll frame frames (Run component phase substep) time step ∙ drop_get ops frame.round op got in
    elim (cases_lt (frame.round + 1) rounds) [
      | inl again ↦
          let next : Frame = record { place = 0; round = frame.round + 1 } in
          rw (next_round (record { place = 0; round = frame.round }) 1 rounds (omega arith) again) (record {
            gives = now ∙ ap (λ xs. op ∷ xs) (sym (remainder_of-roll next (start_frames frames) (Run component phase substep) time step));
            fits = fits-roll next (start_frames frames) (Run component phase substep) step (rw (counts 0) again);
            inside = omega arith;
          })
      | inr over ↦
          rw (next_none (record { place = 0; round = frame.round }) 1 rounds (omega arith) over) (record {
            gives = now ∙ ap (λ xs. op ∷ xs) (drop_all (frame.round + 1) ops (rw (counts time) over));
            fits = tt;
            inside = tt;
          })
    ]

-- what is left after a turn, or nothing
left_after : (f g : Turn → List Op) → ((turn : Turn) → f turn ≡ g turn) → (turn : Option Turn) → option_map_or f turn [] ≡ option_map_or g turn []
left_after f g same None = refl
left_after f g same (Some turn) = same turn

-- what holds of a turn, if there is one
after_turn : (P Q : Turn → Type 0) → ((turn : Turn) → P turn → Q turn) → (turn : Option Turn) → IfSome turn P → IfSome turn Q
after_turn P Q then None is = tt
after_turn P Q then (Some turn) is = then turn is

-- a loop in a loop steps as it does alone
pub step_Loop : (frames : List Frame) (inner duration : ℕ) (body : List Element) (time step : ℕ) (made : Step) → StepsLoop frames inner duration body time made → StepsElement frames (roll-Element (Loop inner duration body)) time step made
step_Loop frames inner duration body time step made steps = record {
  gives = left_of_Loop frames inner duration body time step ∙ steps.gives ∙ ap (λ ops. made.op ∷ ops)
      (left_after _ _ (λ turn. sym (left_of_Loop (turned_frames frames turn.level turn.frame) inner duration body time step)) made.turn);
  fits = after_turn (λ turn. FitsIn (turned_frames frames turn.level turn.frame) inner duration body) (λ turn. FitsElement (turned_frames frames turn.level turn.frame) (roll-Element (Loop inner duration body)) step) (λ turn. fits_Loop (turned_frames frames turn.level turn.frame) inner duration body step) made.turn steps.fits;
  inside = steps.inside;
}
