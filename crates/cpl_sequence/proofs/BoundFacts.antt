-- The operations of a sound sequence are within its bounds.
use Rattle.std.proofs.Common.{◌≡◌, ℕ, ℤ, pos, ◌+◌, ◌*◌, ◌/◌, ◌<◌, ◌≤◌, ◌≤ℤ◌, true, Bool, List, [], ◌∷◌, eqb, ltb, length, Option, Some, unwrap_or, unsigned_abs, refl, sym, ap, ◌∙◌, subst, arith, suc}
use Rattle.std.specs.Prelude.{slice_get}
use Rattle.std.specs.List.{All, list_all}
use Rattle.std.proofs.lemmas.Bool.{and_parts, ltb-true}
use Rattle.std.proofs.lemmas.Int.{ints}
use Rattle.std.proofs.lemmas.List.Elements.{All-cons, All-nil}
use Rattle.std.proofs.lemmas.Option.{get_or_from_slice_get, slice_get_within}
use Rattle.std.proofs.Math.Nat.{div-mul-le_self, mul-le-mul_right}
use Rattle.cpl_sequence.specs.Bounds.{IsOpWithin, IsOpOver, IsOver, IsRunWithin}
use Rattle.cpl_sequence.specs.Sequence.{Sequence}
use Rattle.cpl_sequence.specs.Sound.{IsSound, is_linked, is_substep, is_timed, linked_step}
use Rattle.cpl_sequence.specs.Operations.{run_ops, element_ops, body_ops, top_ops, operations_of}
use Rattle.cpl_sequence.specs.declared.element.Element.{Element, roll-Element}
use Rattle.cpl_sequence.specs.declared.element.Element.TheOpen.{Link, Loop}
use Rattle.cpl_sequence.specs.declared.element.Element.TheFolds.{fold-roll-Element}
use Rattle.cpl_sequence.specs.declared.element.TopLoop.{TopLoop}
use Rattle.cpl_sequence.specs.declared.op.Op.{Op}
use Rattle.cpl_sequence.specs.declared.op.Op.TheVariants.{Run as RunOp}
use Rattle.cpl_sequence.specs.declared.seq_name.SeqName.{SeqName}
use Rattle.cpl_sequence.proofs.ListFacts.{All-at, All-flat_map, All-from_places, All-iterations, Every-from_places}
use Rattle.cpl_sequence.proofs.RunFacts.{get-run_ops, run_part}
use Rattle.cpl_sequence.proofs.SoundFacts.{inner_from, list_all-get_or}
use Rattle.cpl_sequence.proofs.TopLoopFacts.{top_from, top_of_sound}
use Rattle.cpl_sequence.proofs.TreeFacts.{Every, every_all, induction, is_timed-Run, list_all-map, element_ops-Link, element_ops-Loop, element_ops-Run}

-- a run that lies in its step, which lies in the span
run-within : (span : ℤ) (time step at part : ℕ) → pos 0 ≤ℤ span → time + step ≤ unsigned_abs span → 0 < step → time ≤ at → 0 < part → at + part ≤ time + step → IsRunWithin span (pos time) (pos step) (pos at) (pos part)
run-within span time step at part forward early some from part_some within = record {
  forward = omega (arith, ints);
  step_some = omega (arith, ints);
  step_ends = omega (arith, ints);
  from_time = omega (arith, ints);
  substep_some = omega (arith, ints);
  substep_ends = omega (arith, ints);
}

-- each operation of a phase
run_ops-within : (seq : Sequence) (component phase : ℕ) (substep : Option ℕ) (time step : ℕ) → pos 0 ≤ℤ seq.span → is_substep substep step ≡ true → 0 < step → time + step ≤ unsigned_abs seq.span → All (IsOpWithin seq) (run_ops component phase time step substep)
run_ops-within seq component phase substep time step forward parted some early =
    let ops = run_ops component phase time step substep in
    let part = unwrap_or substep step in
    All-from_places (IsOpWithin seq) ops (λ k op got.
    let inside = slice_get_within ops k op got in
    let is = get-run_ops component phase time step substep k part some inside refl in
    let covers = run_part component phase time step substep k some parted inside in
    let made = RunOp component phase (pos time) (pos step) (pos (time + k * part)) (pos part) (eqb k 0) (eqb (k + 1) (step / part)) in
    let same : made ≡ op = cc (sym is ∙ got) in
    subst (IsOpWithin seq) same
    (run-within seq.span time step (time + k * part) part forward early some (omega arith) covers.some (omega (arith, covers.within))))

-- a connector that runs is among so many
is_linked-Link : (count link : ℕ) → is_linked count (roll-Element (Link link)) ≡ ltb link count
is_linked-Link count link = fold-roll-Element Bool (linked_step count) (Link link)

-- those of a loop's body are
is_linked-Loop : (count inner duration : ℕ) (body : List Element) → is_linked count (roll-Element (Loop inner duration body)) ≡ list_all (is_linked count) body
is_linked-Loop count inner duration body = fold-roll-Element Bool (linked_step count) (Loop inner duration body) ∙ list_all-map (λ linked. linked) (is_linked count) body

-- an element that fits at a time has operations within the bounds
abbrev HasWithin : Sequence → Element → Type 0
HasWithin seq e = (time step : ℕ) → is_timed e step ≡ true → is_linked (length seq.links) e ≡ true → 0 < step → time + step ≤ unsigned_abs seq.span → All (IsOpWithin seq) (element_ops e time step)

-- so have those of a body
body-within : (seq : Sequence) (body : List Element) (time step : ℕ) → Every (HasWithin seq) body → list_all (λ e. is_timed e step) body ≡ true → list_all (is_linked (length seq.links)) body ≡ true → 0 < step → time + step ≤ unsigned_abs seq.span → Every (λ e. All (IsOpWithin seq) (element_ops e time step)) body
body-within seq [] time step each timed linked some early = tt
body-within seq (e ∷ es) time step each timed linked some early =
    let t = and_parts (is_timed e step) (list_all (λ x. is_timed x step) es) timed in
    let l = and_parts (is_linked (length seq.links) e) (list_all (is_linked (length seq.links)) es) linked in
    (each.0 time step t.0 l.0 some early, body-within seq es time step each.1 t.1 l.1 some early)

-- an iteration ends by the end of its loop
iteration-ends : (n step duration : ℕ) → n < duration / step → n * step + step ≤ duration
iteration-ends n step duration inside =
    omega (arith, mul-le-mul_right step (let h : suc n ≤ duration / step = omega arith in h), div-mul-le_self duration step)

-- each element has
element_ops-within : (seq : Sequence) → pos 0 ≤ℤ seq.span → (e : Element) → HasWithin seq e
element_ops-within seq forward = induction (HasWithin seq)
    (λ link time step timed linked some early. rw (element_ops-Link link time step)
    (All-cons (IsOpWithin seq) _ [] (record { below = ltb-true link (length seq.links) (sym (is_linked-Link (length seq.links) link) ∙ linked); later = refl }) (All-nil (IsOpWithin seq))))
    (λ component phase substep time step timed linked some early. rw (element_ops-Run component phase substep time step)
    (run_ops-within seq component phase substep time step forward (sym (is_timed-Run component phase substep step) ∙ timed) some early))
    (λ inner duration body each time step timed linked some early. rw (element_ops-Loop inner duration body time step)
    (let sound = inner_from inner duration body step timed in
    let among = sym (is_linked-Loop (length seq.links) inner duration body) ∙ linked in
    All-iterations (IsOpWithin seq) (λ start. body_ops body start inner) inner duration time (λ n inside.
    All-flat_map (IsOpWithin seq) (λ e. element_ops e (time + n * inner) inner) body
    (body-within seq body (time + n * inner) inner each sound.loop.each among sound.loop.step_some (omega (arith, iteration-ends n inner duration inside, sound.within))))))

-- so has each top loop
top-within : (seq : Sequence) (k : ℕ) (top : TopLoop) → IsSound seq → slice_get seq.loops k ≡ Some top → All (IsOpWithin seq) (top_ops top)
top-within seq k top sound got =
    let inside = slice_get_within seq.loops k top got in
    let same = get_or_from_slice_get seq.loops k top top got in
    let here = subst (Rattle.cpl_sequence.proofs.TopLoopFacts.IsTop seq) same (top_of_sound seq k top sound inside) in
    let among : list_all (is_linked (length seq.links)) top.body ≡ true = sym (ap (λ t. list_all (is_linked (length seq.links)) t.body) same) ∙ list_all-get_or (λ t. list_all (is_linked (length seq.links)) t.body) seq.loops k top inside sound.linked in
    let loop = top_from top here.timed in
    All-iterations (IsOpWithin seq) (λ start. body_ops top.body start top.step) top.step top.duration top.begin (λ n inside.
    All-flat_map (IsOpWithin seq) (λ e. element_ops e (top.begin + n * top.step) top.step) top.body
    (body-within seq top.body (top.begin + n * top.step) top.step (every_all (HasWithin seq) (element_ops-within seq sound.forward) top.body) loop.each among loop.step_some (omega (arith, iteration-ends n top.step top.duration inside, here.ends))))

-- and the whole sequence
pub operations_of-within : (seq : Sequence) → IsSound seq → All (IsOpWithin seq) (operations_of seq)
operations_of-within seq sound = All-flat_map (IsOpWithin seq) top_ops seq.loops (Every-from_places _ seq.loops (λ k top got. top-within seq k top sound got))

-- an operation of a sequence is within its bounds
pub op-within : (seq : Sequence) (k : ℕ) (op : Op) → IsSound seq → slice_get (operations_of seq) k ≡ Some op → IsOpWithin seq op
op-within seq k op sound got = All-at (IsOpWithin seq) (operations_of seq) k op (operations_of-within seq sound) got

-- and over the names of the sequence
pub op-over : (seq : Sequence) (k : ℕ) (op : Op) → slice_get (operations_of seq) k ≡ Some op → (names : List SeqName) → IsOver names seq → IsOpOver names op
op-over seq k op got names over = All-at (IsOpOver names) (operations_of seq) k op over.operations got
