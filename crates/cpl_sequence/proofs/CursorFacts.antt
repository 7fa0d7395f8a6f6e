-- A cursor and what it has still to give.
use Rattle.std.proofs.Common.{◌≡◌, ℕ, zero, suc, ◌+◌, ◌*◌, ◌-◌, ◌/◌, ◌^◌, ◌<◌, ◌≤◌, true, List, [], ◌∷◌, ◌++◌, length, drop, get_or, Option, Some, None, refl, sym, ap, ◌∙◌, subst, arith, append-nil, length-drop}
use Rattle.std.specs.Prelude.{⊤, IfSome, MatchOption, option_to_list, slice_get}
use Rattle.std.specs.List.{flat_map, list_all}
use Rattle.std.proofs.lemmas.List.{drop_all, drop_more, length-map}
use Rattle.std.proofs.lemmas.Option.{get_or_from_slice_get, slice_get-get_or, slice_get_past, slice_get_within}
use Rattle.cpl_sequence.specs.Remainder.{FitsIn, FitsTop, IsFilledFrom, IsCursorOf, Spot, remainder, remainder_of_top, start_frame}
use Rattle.cpl_sequence.specs.Sequence.{Sequence}
use Rattle.cpl_sequence.specs.Sound.{IsSound, is_loop, is_nested, is_timed, is_timed_top}
use Rattle.cpl_sequence.specs.Turns.{StepsLoop, start_frames, turned_frames}
use Rattle.cpl_sequence.specs.Operations.{body_ops, top_ops, operations_of, numbers_below}
use Rattle.cpl_sequence.specs.Bounds.{IsOpOver, IsOpWithin, IsOver}
use Rattle.cpl_sequence.specs.declared.element.Element.{Element}
use Rattle.cpl_sequence.specs.declared.element.TopLoop.{TopLoop}
use Rattle.cpl_sequence.specs.declared.frame.Frame.{Frame}
use Rattle.cpl_sequence.specs.declared.frame.Step.{Step}
use Rattle.cpl_sequence.specs.declared.frame.Turn.{Turn}
use Rattle.cpl_sequence.specs.declared.op.Op.{Op}
use Rattle.cpl_sequence.specs.declared.seq_name.SeqName.{SeqName}
use Rattle.cpl_sequence.proofs.BoundFacts.{op-over, op-within}
use Rattle.cpl_sequence.proofs.RemainderFacts.{IsBody, drop_get, first_of, loop_fits, ready, rounds_some, started_all, started_loop}
use Rattle.cpl_sequence.proofs.SoundFacts.{list_all-get_or}
use Rattle.cpl_sequence.proofs.TopLoopFacts.{top_from, top_of_sound}
use Rattle.cpl_sequence.proofs.TurnedFrames.{length-turned_frames}

-- ---- the loop at which a cursor stands

-- what the step of a loop of a sequence asks
pub record IsCurrent (top : TopLoop) : Type 0 where
  pub timed : is_timed_top top ≡ true
  pub nested : list_all (λ e. is_nested e 7) top.body ≡ true
  pub early : top.begin + top.duration ≤ 2 ^ 40

-- each loop of a sound sequence meets it
pub current : (seq : Sequence) (at : ℕ) (top : TopLoop) → IsSound seq → slice_get seq.loops at ≡ Some top → IsCurrent top
current seq at top sound got =
    let inside = slice_get_within seq.loops at top got in
    let same = get_or_from_slice_get seq.loops at top top got in
    let is = top_of_sound seq at top sound inside in
    rw (← same) (record {
      timed = is.timed;
      nested = list_all-get_or (λ x. list_all (λ e. is_nested e 7) x.body) seq.loops at top inside sound.nested;
      early = is.early;
    })

-- frames fit the loop at which the cursor stands
pub current_fits : (seq : Sequence) (spot : Spot) (top : TopLoop) → IsCursorOf seq spot → slice_get seq.loops spot.top ≡ Some top → FitsTop spot.frames top
current_fits seq spot top of got = subst (λ o. MatchOption o ⊤ (FitsTop spot.frames)) got of.fits

-- ---- a cursor at the beginning of a loop

-- a cursor that has to give all from a loop on
pub record IsBegun (seq : Sequence) (spot : Spot) : Type 0 where
  pub all : remainder seq spot ≡ flat_map top_ops (drop spot.top seq.loops)
  pub levels : length spot.frames ≡ 9
  pub fits : MatchOption (slice_get seq.loops spot.top) ⊤ (FitsTop spot.frames)

-- a list that isn't empty has a member
some_length : {A : Type 0} (xs : List A) → (xs ≡ [] → ⊥) → 0 < length xs
some_length [] some = absurd (some refl)
some_length (x ∷ xs) some = omega arith

-- a loop in its first round
begun_top : (top : TopLoop) (frames : List Frame) → length frames ≡ 8 → IsCurrent top → 0 < length top.body → (remainder_of_top (start_frame ∷ start_frames frames) top ≡ top_ops top) × FitsTop (start_frame ∷ start_frames frames) top
begun_top top frames levels here some =
    let sound : IsBody 7 top.step top.duration top.body = record { some = some; loop = top_from top here.timed; nested = here.nested } in
    let first = first_of 7 top.step top.duration top.body sound in
    let begun = started_all frames 7 levels first.0 top.step (ready 7 top.step top.duration top.body 0 first.0 sound first.1) in
    let rounds = rounds_some 7 top.step top.duration top.body sound in (
      started_loop (start_frames frames) top.step top.duration top.body top.begin first.0 rounds first.1 begun,
      loop_fits start_frame (start_frames frames) top.step top.duration top.body first.0 first.1 rounds begun.fits,
    )

-- where a list has no member it ends
none_past : {A : Type 0} (xs : List A) (at : ℕ) → slice_get xs at ≡ None → length xs ≤ at
none_past [] at none = omega arith
none_past (x ∷ xs) zero none = absurd (cc)
none_past (x ∷ xs) (suc at) none = omega (arith, none_past xs at none)

-- the loop that a list has at a place, in which something stands, and those behind it
begun_at : (seq : Sequence) (at : ℕ) (frames : List Frame) (o : Option TopLoop) → slice_get seq.loops at ≡ o → length frames ≡ 8 → IsSound seq → IfSome o (λ top. 0 < length top.body) → IsBegun seq (record { top = at; frames = start_frame ∷ start_frames frames })
begun_at seq at frames None is levels sound filled = record {
  all =
      let past = none_past seq.loops at is in
      ap (λ o. flat_map (remainder_of_top (start_frame ∷ start_frames frames)) (option_to_list o) ++ flat_map top_ops (drop (at + 1) seq.loops)) is
      ∙ ap (flat_map top_ops) (drop_all (at + 1) seq.loops (omega arith) ∙ sym (drop_all at seq.loops past));
  levels = omega (arith, length-map frames (λ x. start_frame));
  fits = subst (λ o. MatchOption o ⊤ (FitsTop (start_frame ∷ start_frames frames))) (sym is) tt;
}
begun_at seq at frames (Some top) is levels sound filled =
    let begun = begun_top top frames levels (current seq at top sound is) filled in
    record {
      all =
          ap (λ o. flat_map (remainder_of_top (start_frame ∷ start_frames frames)) (option_to_list o) ++ flat_map top_ops (drop (at + 1) seq.loops)) is
          ∙ ap (λ ops. ops ++ flat_map top_ops (drop (at + 1) seq.loops)) (append-nil (remainder_of_top (start_frame ∷ start_frames frames) top) ∙ begun.0)
          ∙ ap (flat_map top_ops) (sym (drop_get seq.loops at top is));
      levels = omega (arith, length-map frames (λ x. start_frame));
      fits = subst (λ o. MatchOption o ⊤ (FitsTop (start_frame ∷ start_frames frames))) (sym is) begun.1;
    }

-- a cursor whose frames are at the beginning, at a loop in which something stands or past the last
pub begun : (seq : Sequence) (from at : ℕ) (frames : List Frame) → length frames ≡ 9 → IsSound seq → IsFilledFrom seq.loops from at → IsBegun seq (record { top = at; frames = start_frames frames })
begun seq from at [] levels sound filled = absurd (omega arith)
begun seq from at (frame ∷ frames) levels sound filled = begun_at seq at frames (slice_get seq.loops at) refl (omega arith) sound filled.filled

-- a new cursor has all to give
pub begun_of : (seq : Sequence) (at : ℕ) (frames : List Frame) → length frames ≡ 9 → IsSound seq → IsFilledFrom seq.loops 0 at → remainder seq (record { top = at; frames = start_frames frames }) ≡ operations_of seq
begun_of seq at frames levels sound filled = (begun seq 0 at frames levels sound filled).all ∙ sym filled.empty

-- and is one of the sequence
pub of_begun : (seq : Sequence) (at : ℕ) (frames : List Frame) → length frames ≡ 9 → IsSound seq → IsFilledFrom seq.loops 0 at → IsCursorOf seq (record { top = at; frames = start_frames frames })
of_begun seq at frames levels sound filled =
    let at_start = begun seq 0 at frames levels sound filled in
    record { levels = at_start.levels; fits = at_start.fits; given = 0; rest = begun_of seq at frames levels sound filled }

-- ---- loops in which nothing stands

-- loops that were skipped
pub record IsSkipping (tops : List TopLoop) (from place : ℕ) : Type 0 where
  pub behind : from ≤ place
  pub empty : flat_map top_ops (drop from tops) ≡ flat_map top_ops (drop place tops)

-- none yet
pub skipping_none : (tops : List TopLoop) (from : ℕ) → IsSkipping tops from from
skipping_none tops from = record { behind = omega arith; empty = refl }

-- nothing
abbrev nothing : ℕ → List Op
nothing n = []

-- nothing at each number is nothing
nothing_each : (ns : List ℕ) → flat_map nothing ns ≡ []
nothing_each [] = refl
nothing_each (n ∷ ns) = nothing_each ns

-- a loop in which nothing stands has no operations
top_ops-empty : (top : TopLoop) → top.body ≡ [] → top_ops top ≡ []
top_ops-empty top none =
    ap (λ body. flat_map (λ n. body_ops body (top.begin + n * top.step) top.step) (numbers_below (top.duration / top.step))) none
    ∙ nothing_each (numbers_below (top.duration / top.step))

-- one more
pub skipping_more : (tops : List TopLoop) (from place : ℕ) (top : TopLoop) → place < length tops → top ≡ get_or tops place top → top.body ≡ [] → IsSkipping tops from place → IsSkipping tops from (place + 1)
skipping_more tops from place top inside is none so_far = record {
  behind = omega (arith, so_far.behind);
  empty =
      so_far.empty
      ∙ ap (flat_map top_ops) (drop_more tops place top inside ∙ ap (λ t. t ∷ drop (place + 1) tops) (sym is))
      ∙ ap (λ ops. ops ++ flat_map top_ops (drop (place + 1) tops)) (top_ops-empty top none);
}

-- up to a loop in which something stands
pub skipping_filled : (tops : List TopLoop) (from place : ℕ) (top : TopLoop) → place < length tops → top ≡ get_or tops place top → (top.body ≡ [] → ⊥) → IsSkipping tops from place → IsFilledFrom tops from place
skipping_filled tops from place top inside is some so_far = record {
  behind = so_far.behind;
  inside = omega arith;
  empty = so_far.empty;
  filled = subst (λ o. IfSome o (λ t. 0 < length t.body)) (sym (slice_get-get_or tops place top inside ∙ ap Some (sym is))) (some_length top.body some);
}

-- or past the last
pub skipping_end : (tops : List TopLoop) (from place : ℕ) → from ≤ length tops → length tops ≤ place → IsSkipping tops from place → IsFilledFrom tops from (length tops)
skipping_end tops from place inside end so_far = record {
  behind = inside;
  inside = omega arith;
  empty = so_far.empty ∙ ap (flat_map top_ops) (drop_all place tops end ∙ sym (drop_all (length tops) tops (omega arith)));
  filled = subst (λ o. IfSome o (λ t. 0 < length t.body)) (sym (slice_get_past tops (length tops) (omega arith))) tt;
}

-- ---- one operation

-- an operation that a cursor gave, if it did
pub record IsNext (seq : Sequence) (old new : Spot) (given : Option Op) : Type 0 where
  pub levels : length new.frames ≡ 9
  pub fits : MatchOption (slice_get seq.loops new.top) ⊤ (FitsTop new.frames)
  pub gives : MatchOption given ((remainder seq old ≡ []) × (remainder seq new ≡ [])) (λ op. remainder seq old ≡ op ∷ remainder seq new)

-- past the last loop nothing is left, and nothing is given
pub past_end : (seq : Sequence) (spot : Spot) → slice_get seq.loops spot.top ≡ None → remainder seq spot ≡ []
past_end seq spot is =
    let past = none_past seq.loops spot.top is in
    ap (λ o. flat_map (remainder_of_top spot.frames) (option_to_list o) ++ flat_map top_ops (drop (spot.top + 1) seq.loops)) is
    ∙ ap (flat_map top_ops) (drop_all (spot.top + 1) seq.loops (omega arith))

-- so the cursor stays
pub next_none : (seq : Sequence) (spot : Spot) → IsCursorOf seq spot → slice_get seq.loops spot.top ≡ None → IsNext seq spot spot None
next_none seq spot of is = record { levels = of.levels; fits = of.fits; gives = (past_end seq spot is, past_end seq spot is) }

-- what is left, at the loop at which the cursor stands
left_at : (seq : Sequence) (spot : Spot) (top : TopLoop) → slice_get seq.loops spot.top ≡ Some top → remainder seq spot ≡ (remainder_of_top spot.frames top ++ []) ++ flat_map top_ops (drop (spot.top + 1) seq.loops)
left_at seq spot top is = ap (λ o. flat_map (remainder_of_top spot.frames) (option_to_list o) ++ flat_map top_ops (drop (spot.top + 1) seq.loops)) is

-- an operation with one behind it in the same loop
pub next_turn : (seq : Sequence) (old : Spot) (top : TopLoop) (op : Op) (turn : Turn) → IsCursorOf seq old → slice_get seq.loops old.top ≡ Some top → StepsLoop old.frames top.step top.duration top.body top.begin (record { op = op; turn = Some turn }) → IsNext seq old (record { top = old.top; frames = turned_frames old.frames turn.level turn.frame }) (Some op)
next_turn seq old top op turn of is steps =
    let new : Spot = record { top = old.top; frames = turned_frames old.frames turn.level turn.frame } in
    record {
      levels = length-turned_frames old.frames turn.level turn.frame ∙ of.levels;
      fits = subst (λ o. MatchOption o ⊤ (FitsTop new.frames)) (sym is) steps.fits;
      gives =
          left_at seq old top is
          ∙ ap (λ ops. (ops ++ []) ++ flat_map top_ops (drop (old.top + 1) seq.loops)) steps.gives
          ∙ ap (λ ops. op ∷ ops) (sym (left_at seq new top is));
    }

-- frames that turn to the beginning at the outermost level
turned_start : (frames : List Frame) → turned_frames frames 0 start_frame ≡ start_frames frames
turned_start [] = refl
turned_start (frame ∷ frames) = refl

-- the last operation of a loop
pub next_top : (seq : Sequence) (old : Spot) (at : ℕ) (top : TopLoop) (op : Op) → IsSound seq → IsCursorOf seq old → slice_get seq.loops old.top ≡ Some top → IsFilledFrom seq.loops (old.top + 1) at → StepsLoop old.frames top.step top.duration top.body top.begin (record { op = op; turn = None }) → IsNext seq old (record { top = at; frames = turned_frames old.frames 0 start_frame }) (Some op)
next_top seq old at top op sound of is filled steps =
    let after = begun seq (old.top + 1) at old.frames of.levels sound filled in
    rw (turned_start old.frames) (record {
      levels = after.levels;
      fits = after.fits;
      gives =
          left_at seq old top is
          ∙ ap (λ ops. (ops ++ []) ++ flat_map top_ops (drop (old.top + 1) seq.loops)) steps.gives
          ∙ ap (λ ops. op ∷ ops) (filled.empty ∙ sym after.all);
    })

-- ---- the k-th operation

-- a list that has nothing from a place on
drop_none : {A : Type 0} (xs : List A) (k : ℕ) → drop k xs ≡ [] → (slice_get xs k ≡ None) × (drop (k + 1) xs ≡ [])
drop_none xs k none =
    let past : length xs ≤ k = omega (arith, length-drop k xs, ap length none) in
    (slice_get_past xs k past, drop_all (k + 1) xs (omega arith))

-- a list from a place on, with its first member
drop_first : {A : Type 0} (xs : List A) (k : ℕ) (y : A) (ys : List A) → drop k xs ≡ y ∷ ys → (slice_get xs k ≡ Some y) × (drop (k + 1) xs ≡ ys)
drop_first xs k y ys first =
    let inside : k < length xs = omega (arith, length-drop k xs, ap length first) in
    let same = sym (drop_more xs k y inside) ∙ first in
    let here : get_or xs k y ≡ y = cc same in
    let behind : drop (k + 1) xs ≡ ys = cc same in
    (slice_get-get_or xs k y inside ∙ ap Some here, behind)

-- a cursor that gave k operations gives the k-th
pub in_order : (seq : Sequence) (old new : Spot) (given : Option Op) → IsNext seq old new given → (k : ℕ) → remainder seq old ≡ drop k (operations_of seq) → (given ≡ slice_get (operations_of seq) k) × (remainder seq new ≡ drop (k + 1) (operations_of seq))
in_order seq old new None next k is =
    let none = drop_none (operations_of seq) k (sym is ∙ next.gives.0) in
    (sym none.0, next.gives.1 ∙ sym none.1)
in_order seq old new (Some op) next k is =
    let first = drop_first (operations_of seq) k op (remainder seq new) (sym is ∙ next.gives) in
    (sym first.0, sym first.1)

-- so the cursor is one of the sequence
pub next_of : (seq : Sequence) (old new : Spot) (given : Option Op) → IsCursorOf seq old → IsNext seq old new given → IsCursorOf seq new
next_of seq old new given of next = record {
  levels = next.levels;
  fits = next.fits;
  given = of.given + 1;
  rest = (in_order seq old new given next of.given of.rest).1;
}

-- all that is said of a next operation
pub record IsGiven (seq : Sequence) (old new : Spot) (given : Option Op) : Type 0 where
  pub of : IsCursorOf seq new
  pub gives : MatchOption given ((remainder seq old ≡ []) × (remainder seq new ≡ [])) (λ op. remainder seq old ≡ op ∷ remainder seq new)
  pub in_order : (k : ℕ) → remainder seq old ≡ drop k (operations_of seq) → (given ≡ slice_get (operations_of seq) k) × (remainder seq new ≡ drop (k + 1) (operations_of seq))
  pub within : IfSome given (IsOpWithin seq)
  pub over : IfSome given (λ op. (names : List SeqName) → IsOver names seq → IsOpOver names op)

-- it follows
pub given_of : (seq : Sequence) (old new : Spot) (given : Option Op) → IsSound seq → IsCursorOf seq old → IsNext seq old new given → IsGiven seq old new given
given_of seq old new None sound of next = record {
  of = next_of seq old new None of next;
  gives = next.gives;
  in_order = in_order seq old new None next;
  within = tt;
  over = tt;
}
given_of seq old new (Some op) sound of next =
    let got = sym (in_order seq old new (Some op) next of.given of.rest).0 in
    record {
      of = next_of seq old new (Some op) of next;
      gives = next.gives;
      in_order = in_order seq old new (Some op) next;
      within = op-within seq of.given op sound got;
      over = op-over seq of.given op got;
    }

-- ---- what code has of a cursor

-- what code has of a sequence and of a cursor of it: its loops, and the place and frames at which the cursor stands
pub record IsHeld (seq : Sequence) (spot : Spot) (loops : List TopLoop) (at : ℕ) (frames : List Frame) : Type 0 where
  pub sound : IsSound seq
  pub of : IsCursorOf seq spot
  pub loops_are : loops ≡ seq.loops
  pub stands : record { top = at; frames = frames } ≡ spot

-- the cursor is at that place, with those frames
held_of : (seq : Sequence) (spot : Spot) (loops : List TopLoop) (at : ℕ) (frames : List Frame) → IsHeld seq spot loops at frames → IsCursorOf seq (record { top = at; frames = frames })
held_of seq spot loops at frames held = subst (IsCursorOf seq) (sym held.stands) held.of

-- a loop that code got
held_top : (seq : Sequence) (spot : Spot) (loops : List TopLoop) (at : ℕ) (frames : List Frame) (o : Option TopLoop) → IsHeld seq spot loops at frames → o ≡ slice_get loops at → slice_get seq.loops at ≡ o
held_top seq spot loops at frames o held got = sym (got ∙ ap (λ xs. slice_get xs at) held.loops_are)

-- what a step asks, of the frames and the body that code was lent
pub record IsAsked (frames : List Frame) (top : TopLoop) (body : List Element) : Type 0 where
  pub timed : is_loop (λ e. is_timed e top.step) top.step top.duration body ≡ true
  pub nested : list_all (λ e. is_nested e (length frames - 2)) body ≡ true
  pub early : top.begin + top.duration ≤ 2 ^ 40
  pub fits : FitsIn frames top.step top.duration body

-- it is met at the loop at which a cursor of a sequence stands
pub asked : (seq : Sequence) (spot : Spot) (loops : List TopLoop) (at : ℕ) (frames lent : List Frame) (top : TopLoop) (body : List Element) → IsHeld seq spot loops at frames → Some top ≡ slice_get loops at → lent ≡ frames → body ≡ top.body → IsAsked lent top body
asked seq spot loops at frames lent top body held got lent_is body_is =
    let here = held_top seq spot loops at frames (Some top) held got in
    let of = held_of seq spot loops at frames held in
    let is = current seq at top held.sound here in
    let levels : length frames - 2 ≡ 7 = omega (arith, of.levels) in
    rw (lent_is, body_is) (record {
      timed = is.timed;
      nested = rw levels is.nested;
      early = is.early;
      fits = current_fits seq (record { top = at; frames = frames }) top of here;
    })

-- a step, of the frames and the body that code was lent
steps_at : (frames lent : List Frame) (step duration : ℕ) (body elements : List Element) (time : ℕ) (made : Step) (turn : Option Turn) → lent ≡ frames → elements ≡ body → made.turn ≡ turn → StepsLoop lent step duration elements time made → StepsLoop frames step duration body time (record { op = made.op; turn = turn })
steps_at frames lent step duration body elements time made turn lent_is elements_is turn_is steps = rw (← lent_is, ← elements_is, ← turn_is) steps

-- nothing was given
pub given_none : (seq : Sequence) (spot : Spot) (loops : List TopLoop) (at : ℕ) (frames : List Frame) → IsHeld seq spot loops at frames → None ≡ slice_get loops at → IsNext seq spot spot None
given_none seq spot loops at frames held got =
    subst (λ x. IsNext seq x x None) held.stands
    (next_none seq (record { top = at; frames = frames }) (held_of seq spot loops at frames held) (held_top seq spot loops at frames None held got))

-- an operation was given, with one behind it in the same loop
pub given_turn : (seq : Sequence) (spot : Spot) (loops : List TopLoop) (at : ℕ) (frames lent now : List Frame) (top : TopLoop) (body : List Element) (made : Step) (turn : Turn) → IsHeld seq spot loops at frames → Some top ≡ slice_get loops at → lent ≡ frames → body ≡ top.body → made.turn ≡ Some turn → StepsLoop lent top.step top.duration body top.begin made → now ≡ turned_frames frames turn.level turn.frame → IsNext seq spot (record { top = at; frames = now }) (Some made.op)
given_turn seq spot loops at frames lent now top body made turn held got lent_is body_is turn_is steps turned_to =
    rw turned_to (subst (λ x. IsNext seq x (record { top = at; frames = turned_frames frames turn.level turn.frame }) (Some made.op)) held.stands
    (next_turn seq (record { top = at; frames = frames }) top made.op turn (held_of seq spot loops at frames held) (held_top seq spot loops at frames (Some top) held got)
    (steps_at frames lent top.step top.duration top.body body top.begin made (Some turn) lent_is body_is turn_is steps)))

-- the last operation of a loop was given
pub given_top : (seq : Sequence) (spot : Spot) (loops others : List TopLoop) (at place : ℕ) (frames lent now : List Frame) (top : TopLoop) (body : List Element) (made : Step) → IsHeld seq spot loops at frames → Some top ≡ slice_get loops at → lent ≡ frames → body ≡ top.body → made.turn ≡ None → StepsLoop lent top.step top.duration body top.begin made → others ≡ seq.loops → IsFilledFrom others (at + 1) place → now ≡ turned_frames frames 0 start_frame → IsNext seq spot (record { top = place; frames = now }) (Some made.op)
given_top seq spot loops others at place frames lent now top body made held got lent_is body_is turn_is steps others_are filled turned_to =
    rw turned_to (subst (λ x. IsNext seq x (record { top = place; frames = turned_frames frames 0 start_frame }) (Some made.op)) held.stands
    (next_top seq (record { top = at; frames = frames }) place top made.op held.sound (held_of seq spot loops at frames held) (held_top seq spot loops at frames (Some top) held got) (subst (λ tops. IsFilledFrom tops (at + 1) place) others_are filled)
    (steps_at frames lent top.step top.duration top.body body top.begin made None lent_is body_is turn_is steps)))
