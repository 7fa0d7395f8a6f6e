-- What is read over names keeps to them.
use Rattle.std.proofs.Common.{◌≡◌, ◌≢◌, ℕ, ℤ, zero, suc, pos, ◌+◌, ◌-◌, ◌*◌, ◌/◌, ◌^◌, ◌<◌, ◌≤◌, Bool, true, false, not, eqb, leb, ltb, inl, inr, List, [], ◌∷◌, ◌++◌, length, position, Option, Some, None, IfSome, option_map, unwrap_or, unsigned_abs, Result, Ok, IfOk, refl, sym, ap, ◌∙◌, subst, arith}
use Rattle.std.specs.Prelude.{◌⊎◌, slice_get}
use Rattle.std.specs.List.{All, flat_map, position_from}
use Rattle.std.specs.Option.{ok_or, option_or}
use Rattle.std.specs.Str.{bytes_eq}
use Rattle.std.proofs.lemmas.Bool.{and_from, cases_Bool, cases_lt, eq-eqb}
use Rattle.std.proofs.lemmas.Grind.{flat_map-append}
use Rattle.std.proofs.lemmas.Int.{ints}
use Rattle.std.proofs.lemmas.Iterator.Adapters.{position_from-zero}
use Rattle.std.proofs.lemmas.List.Elements.{All-append, All-cons, All-head, All-map, All-nil, All-push, All-tail}
use Rattle.std.proofs.lemmas.Option.{slice_get_within}
use Rattle.cpl_base.specs.ResultChain.{◌>>=◌}
use Rattle.cpl_config.specs.declared.row.Row.{Row}
use Rattle.cpl_sequence.specs.Bounds.{AreOfPairs, IsLinkOver, IsOpOver, IsOver}
use Rattle.cpl_sequence.specs.Sequence.{Sequence}
use Rattle.cpl_sequence.specs.Sound.{IsSound}
use Rattle.cpl_sequence.specs.Operations.{run_ops, element_ops, body_ops, top_ops, operations_of, numbers_below}
use Rattle.cpl_sequence.specs.declared.element.Element.{Element, roll-Element}
use Rattle.cpl_sequence.specs.declared.element.Element.TheFolds.{fold-roll-Element}
use Rattle.cpl_sequence.specs.declared.element.Element.TheOpen.{Link, Run, Loop}
use Rattle.cpl_sequence.specs.declared.link_line.LinkLine.{LinkLine}
use Rattle.cpl_sequence.specs.declared.seq_name.SeqName.{SeqName}
use Rattle.cpl_sequence.proofs.BoundFacts.{operations_of-within}
use Rattle.cpl_sequence.proofs.ListFacts.{All-at, All-flat_map, All-iterations, slice_get-append_left, slice_get-append_right}
use Rattle.cpl_sequence.proofs.TreeFacts.{Every, every_all, flat_map-map, induction, element_ops-Link, element_ops-Loop, element_ops-Run}
use Rattle.cpl_runseq.specs.Asked.{AreNames, IsStep}
use Rattle.cpl_runseq.specs.FilledReading.{after_close_filled, after_form_filled, after_row_filled, after_rows_filled, join_if_any}
use Rattle.cpl_runseq.specs.Links.{is_of, link_at}
use Rattle.cpl_runseq.specs.Names.{component_of, phase_of, substep_of}
use Rattle.cpl_runseq.specs.Options.{Transfer, transfer_of}
use Rattle.cpl_runseq.specs.Reading.{Reading, after_link, after_opening, after_run, agrees, connection, divides, divides_given, empty_reading, fits_step, innermost_loop, link_in, loop_duration, loop_in, run_in, with_element}
use Rattle.cpl_runseq.specs.ReadingBounds.{IsBodyOver, IsLeafOver, IsReadingOver, Leaf, leaves, leaves_step}
use Rattle.cpl_runseq.specs.RowForms.{RowForm, close, opening, bad_step, link, run, bad_element, row_form}
use Rattle.cpl_runseq.specs.RowWords.{row_words}
use Rattle.cpl_runseq.specs.Whole.{closed_check, durations_check, span_of, top_loops, total_duration, whole_of}
use Rattle.cpl_runseq.specs.declared.fault.SeqFault.{SeqFault}
use Rattle.cpl_runseq.specs.declared.fault.SeqFault.TheVariants.{BadStep, ComponentUnknown, LoopTooDeep, OptionsDiffer, PhaseUnknown, SelfLink, StepUnset, StepUneven, SubstepUneven}
use Rattle.cpl_runseq.specs.declared.read_loop.ReadLoop.{ReadLoop}
use Rattle.cpl_runseq.proofs.ReadingFacts.{bind-IfOk, bind-fact, position-below, test-IfOk}
use Rattle.cpl_runseq.proofs.ResultFacts.{first_ok}

-- ---- two lists

-- a fact of all is one of the first
All-left : {A : Type 0} (P : A → Type 0) (xs ys : List A) → All P (xs ++ ys) → All P xs
All-left P [] ys all = All-nil P
All-left P (x ∷ xs) ys all = All-cons P x xs (All-head P x (xs ++ ys) all) (All-left P xs ys (All-tail P x (xs ++ ys) all))

-- and of the second
All-right : {A : Type 0} (P : A → Type 0) (xs ys : List A) → All P (xs ++ ys) → All P ys
All-right P [] ys all = all
All-right P (x ∷ xs) ys all = All-right P xs ys (All-tail P x (xs ++ ys) all)

-- ---- operations

-- what an operation of a run covers is what its component's substep says
substep-is : (o : Option ℤ) (substep : Option ℕ) (step : ℕ) → substep ≡ option_map unsigned_abs o → IfSome o IsStep → pos (unwrap_or substep step) ≡ unwrap_or o (pos step)
substep-is None substep step is some = ap (λ s. pos (unwrap_or s step)) is
substep-is (Some z) substep step is some =
    let least = some.0 in
    let same : pos (unsigned_abs z) ≡ z = omega (arith, ints) in
    ap (λ s. pos (unwrap_or s step)) is ∙ same

-- the operations of a run that is over names are
run_ops-over : (names : List SeqName) (component phase : ℕ) (substep : Option ℕ) (time step : ℕ) → AreNames names → IsLeafOver names (record { component = component; phase = phase; substep = substep }) → All (IsOpOver names) (run_ops component phase time step substep)
run_ops-over names component phase None time step asked leaf =
    All-cons (IsOpOver names) _ []
    (record { name = leaf.name; named = leaf.named; phase_below = leaf.phase_below; substep_is = substep-is leaf.name.substep None step leaf.substep_is (All-at (λ name. IfSome name.substep IsStep) names component leaf.name asked.substeps leaf.named) })
    (All-nil (IsOpOver names))
run_ops-over names component phase (Some substep) time step asked leaf =
    All-map (IsOpOver names) _ (numbers_below (step / substep)) (λ k d inside.
    record { name = leaf.name; named = leaf.named; phase_below = leaf.phase_below; substep_is = substep-is leaf.name.substep (Some substep) step leaf.substep_is (All-at (λ name. IfSome name.substep IsStep) names component leaf.name asked.substeps leaf.named) })

-- the runs of a link
leaves-Link : (k : ℕ) → leaves (roll-Element (Link k)) ≡ []
leaves-Link k = fold-roll-Element (List Leaf) leaves_step (Link k)

-- of a run
leaves-Run : (component phase : ℕ) (substep : Option ℕ) → leaves (roll-Element (Run component phase substep)) ≡ record { component = component; phase = phase; substep = substep } ∷ []
leaves-Run component phase substep = fold-roll-Element (List Leaf) leaves_step (Run component phase substep)

-- of a loop
leaves-Loop : (inner duration : ℕ) (body : List Element) → leaves (roll-Element (Loop inner duration body)) ≡ flat_map leaves body
leaves-Loop inner duration body = fold-roll-Element (List Leaf) leaves_step (Loop inner duration body) ∙ flat_map-map (λ ls. ls) leaves body

-- an element whose runs are over names has operations over them
abbrev HasOver : List SeqName → Element → Type 0
HasOver names e = All (IsLeafOver names) (leaves e) → (time step : ℕ) → All (IsOpOver names) (element_ops e time step)

-- so has each element of a body
body-over : (names : List SeqName) (body : List Element) (time step : ℕ) → Every (HasOver names) body → IsBodyOver names body → Every (λ e. All (IsOpOver names) (element_ops e time step)) body
body-over names [] time step each over = tt
body-over names (e ∷ es) time step each over =
    (each.0 (All-left (IsLeafOver names) (leaves e) (flat_map leaves es) over) time step, body-over names es time step each.1 (All-right (IsLeafOver names) (leaves e) (flat_map leaves es) over))

-- each element has
element_ops-over : (names : List SeqName) → AreNames names → (e : Element) → HasOver names e
element_ops-over names asked = induction (HasOver names)
    (λ k over time step. rw (element_ops-Link k time step) (All-cons (IsOpOver names) _ [] tt (All-nil (IsOpOver names))))
    (λ component phase substep over time step. rw (element_ops-Run component phase substep time step)
    (run_ops-over names component phase substep time step asked (All-head (IsLeafOver names) _ [] (subst (All (IsLeafOver names)) (leaves-Run component phase substep) over))))
    (λ inner duration body each over time step. rw (element_ops-Loop inner duration body time step)
    (All-iterations (IsOpOver names) (λ start. body_ops body start inner) inner duration time (λ n inside.
    All-flat_map (IsOpOver names) (λ e. element_ops e (time + n * inner) inner) body
    (body-over names body (time + n * inner) inner each (subst (All (IsLeafOver names)) (leaves-Loop inner duration body) over)))))

-- so have top loops
tops-over : (names : List SeqName) → AreNames names → (begin rest : ℕ) (loops : List ReadLoop) → All (λ l. IsBodyOver names l.body) loops → Every (λ top. All (IsOpOver names) (top_ops top)) (top_loops begin rest loops)
tops-over names asked begin rest [] over = tt
tops-over names asked begin rest (l ∷ more) over = (
  All-iterations (IsOpOver names) (λ start. body_ops l.body start l.step) l.step (unwrap_or l.given rest) begin (λ n inside.
      All-flat_map (IsOpOver names) (λ e. element_ops e (begin + n * l.step) l.step) l.body
      (body-over names l.body (begin + n * l.step) l.step (every_all (HasOver names) (element_ops-over names asked) l.body) (All-head (λ m. IsBodyOver names m.body) l more over))),
  tops-over names asked (begin + unwrap_or l.given rest) rest more (All-tail (λ m. IsBodyOver names m.body) l more over),
)

-- and the whole sequence
pub whole-over : (names : List SeqName) (span : Option ℕ) (room : ℕ) (r : Reading) (seq : Sequence) → AreNames names → IsReadingOver names r → whole_of span room r ≡ Ok seq → IsSound seq → length seq.links < 2 ^ 16 → IsOver names seq
whole-over names span room r seq asked over is sound few =
    let a = first_ok (λ (u : Unit {0}). durations_check span r.loops >>= (λ _. span_of span room r.loops >>= (λ n. Ok (record { links = r.links; loops = top_loops 0 (n - total_duration r.loops) r.loops; span = pos n })))) (closed_check (innermost_loop r.open_loops)) seq is in
    let b = first_ok (λ (u : Unit {0}). span_of span room r.loops >>= (λ n. Ok (record { links = r.links; loops = top_loops 0 (n - total_duration r.loops) r.loops; span = pos n }))) (durations_check span r.loops) seq a.2 in
    let c = first_ok (λ n. Ok (record { links = r.links; loops = top_loops 0 (n - total_duration r.loops) r.loops; span = pos n })) (span_of span room r.loops) seq b.2 in
    let made : Sequence = record { links = r.links; loops = top_loops 0 (c.0 - total_duration r.loops) r.loops; span = pos c.0 } in
    let same : made ≡ seq = cc (c.2) in
    record {
      operations = subst (λ (s : Sequence). All (IsOpOver names) (operations_of s)) same (All-flat_map (IsOpOver names) top_ops made.loops (tops-over names asked 0 (c.0 - total_duration r.loops) r.loops over.loops_over));
      within = operations_of-within seq sound;
      ends = subst (λ (s : Sequence). All (IsLinkOver names) s.links) same over.links_over;
      pairs = subst (λ (s : Sequence). AreOfPairs s.links) same over.pairs;
      few = few;
    }

-- ---- bodies

-- one element more
body_over-push : (names : List SeqName) (body : List Element) (e : Element) → IsBodyOver names body → All (IsLeafOver names) (leaves e) → IsBodyOver names (body ++ e ∷ [])
body_over-push names body e over here =
    subst (All (IsLeafOver names)) (sym (flat_map-append leaves body (e ∷ [])))
    (All-append (IsLeafOver names) (flat_map leaves body) (leaves e ++ []) over (All-append (IsLeafOver names) (leaves e) [] here (All-nil (IsLeafOver names))))

-- a nested loop joins
body_over-join : (names : List SeqName) (around : List Element) (inner duration : ℕ) (body : List Element) → IsBodyOver names around → IsBodyOver names body → IsBodyOver names (join_if_any around inner duration body)
body_over-join names around inner duration [] outer over = outer
body_over-join names around inner duration (e ∷ es) outer over =
    body_over-push names around (roll-Element (Loop inner duration (e ∷ es))) outer (subst (All (IsLeafOver names)) (sym (leaves-Loop inner duration (e ∷ es))) over)

-- the body of a loop is over names
abbrev IsLoopOver : List SeqName → ReadLoop → Type 0
IsLoopOver names l = IsBodyOver names l.body

-- ---- a row

-- the innermost loop ends
after_close-over : (names : List SeqName) (r : Reading) (line : ℕ) (loops : List ReadLoop) → IsReadingOver names r → All (IsLoopOver names) loops → IfOk (after_close_filled r line loops) (IsReadingOver names)
after_close-over names r line [] over all = tt
after_close-over names r line (l ∷ []) over all = record {
  open_over = All-nil (IsLoopOver names);
  loops_over = All-push (IsLoopOver names) r.loops l over.loops_over (All-head (IsLoopOver names) l [] all);
  links_over = over.links_over;
  pairs = over.pairs;
}
after_close-over names r line (l ∷ around ∷ more) over all =
    let outer = All-tail (IsLoopOver names) l (around ∷ more) all in
    record {
      open_over = All-cons (IsLoopOver names) _ more
          (body_over-join names around.body l.step (loop_duration l.given around) l.body (All-head (IsLoopOver names) around more outer) (All-head (IsLoopOver names) l (around ∷ more) all))
          (All-tail (IsLoopOver names) around more outer);
      loops_over = over.loops_over;
      links_over = over.links_over;
      pairs = over.pairs;
    }

-- a loop that begins is empty
loop_in-over : (names : List SeqName) (around : Option ReadLoop) (time_step : Option ℕ) (line : ℕ) (step given : Option ℕ) → IfOk (loop_in around time_step line step given) (IsLoopOver names)
loop_in-over names None time_step line step given =
    bind-IfOk (IsLoopOver names) (ok_or (option_or step time_step) (StepUnset line)) _ (λ s _.
    test-IfOk (IsLoopOver names) (divides_given s given) (StepUneven line) _ (λ _. All-nil (IsLeafOver names)))
loop_in-over names (Some around) time_step line step given =
    test-IfOk (IsLoopOver names) (leb (loop_duration given around) around.step) (BadStep line) _ (λ _.
    test-IfOk (IsLoopOver names) (divides (unwrap_or step around.step) (loop_duration given around)) (StepUneven line) _ (λ _. All-nil (IsLeafOver names)))

-- a loop begins
after_opening-over : (names : List SeqName) (r : Reading) (time_step : Option ℕ) (line : ℕ) (step given : Option ℕ) → IsReadingOver names r → IfOk (after_opening r time_step line step given) (IsReadingOver names)
after_opening-over names r time_step line step given over =
    test-IfOk (IsReadingOver names) (ltb (length r.open_loops) 8) (LoopTooDeep line) _ (λ _.
    bind-fact (IsReadingOver names) (IsLoopOver names) (loop_in (innermost_loop r.open_loops) time_step line step given) _ (loop_in-over names (innermost_loop r.open_loops) time_step line step given) (λ l here.
    record { open_over = All-cons (IsLoopOver names) l r.open_loops here over.open_over; loops_over = over.loops_over; links_over = over.links_over; pairs = over.pairs }))

-- a value that is there
ok_or-some : {A : Type 0} (o : Option A) (fault : SeqFault) (x : A) → ok_or o fault ≡ Ok x → o ≡ Some x
ok_or-some None fault x is = absurd (cc)
ok_or-some (Some y) fault x is = cc

-- a component that is found, by the place
component-at : (names : List SeqName) (place : ℕ) (o : Option SeqName) (c : ℕ × SeqName) → slice_get names place ≡ o → option_map (λ name. (place, name)) o ≡ Some c → slice_get names c.0 ≡ Some c.1
component-at names place None c is found = absurd (cc)
component-at names place (Some name) c is found =
    let same : (let pair : ℕ × SeqName = (place, name) in pair) ≡ c = cc in
    subst (λ (p : ℕ × SeqName). slice_get names p.0 ≡ Some p.1) same is

-- a component that is found, by where it was looked for
component-found : (names : List SeqName) (o : Option ℕ) (c : ℕ × SeqName) → Rattle.std.specs.Prelude.option_and_then (λ place. option_map (λ name. (place, name)) (slice_get names place)) o ≡ Some c → slice_get names c.0 ≡ Some c.1
component-found names None c found = absurd (cc)
component-found names (Some place) c found = component-at names place (slice_get names place) c refl found

-- a phase that is found
phase-found : (name : SeqName) (phase : Option (List ℕ)) (p : ℕ) → 1 ≤ length name.phases → phase_of name phase ≡ Some p → p < length name.phases
phase-found name None p some found = let same : 0 ≡ p = cc in omega arith
phase-found name (Some word) p some found = position-below (λ other. bytes_eq other word) name.phases p found

-- a run is over the names
run_in-over : (names : List SeqName) (step line : ℕ) (component : List ℕ) (phase : Option (List ℕ)) → AreNames names → IfOk (run_in step names line component phase) (λ e. All (IsLeafOver names) (leaves e))
run_in-over names step line component phase asked =
    let P : Element → Type 0 = λ e. All (IsLeafOver names) (leaves e) in
    bind-IfOk P (ok_or (component_of names component) (ComponentUnknown line)) _ (λ c c_is.
    bind-IfOk P (ok_or (phase_of c.1 phase) (PhaseUnknown line)) _ (λ p p_is.
    test-IfOk P (fits_step (substep_of c.1) step) (SubstepUneven line) _ (λ _.
    let named = component-found names (position (λ name. bytes_eq name.name component) names) c (ok_or-some _ (ComponentUnknown line) c c_is) in
    let some = All-at (λ name. 1 ≤ length name.phases) names c.0 c.1 asked.phases_some named in
    subst (All (IsLeafOver names)) (sym (leaves-Run c.0 p (substep_of c.1)))
    (All-cons (IsLeafOver names) _ [] (record { name = c.1; named = named; phase_below = phase-found c.1 phase p some (ok_or-some _ (PhaseUnknown line) p p_is); substep_is = refl }) (All-nil (IsLeafOver names))))))

-- a phase runs
after_run-over : (names : List SeqName) (r : Reading) (line : ℕ) (component : List ℕ) (phase : Option (List ℕ)) (loops : List ReadLoop) → AreNames names → IsReadingOver names r → All (IsLoopOver names) loops → IfOk (after_run r names line component phase loops) (IsReadingOver names)
after_run-over names r line component phase [] asked over all = tt
after_run-over names r line component phase (l ∷ more) asked over all =
    bind-fact (IsReadingOver names) (λ e. All (IsLeafOver names) (leaves e)) (run_in l.step names line component phase) _ (run_in-over names l.step line component phase asked) (λ e here.
    record {
      open_over = All-cons (IsLoopOver names) (with_element l e) more (body_over-push names l.body e (All-head (IsLoopOver names) l more all) here) (All-tail (IsLoopOver names) l more all);
      loops_over = over.loops_over;
      links_over = over.links_over;
      pairs = over.pairs;
    })

-- ---- connectors

-- where none passes, no member does
position_from-none : {A : Type 0} (p : A → Bool) (n : ℕ) (xs : List A) (i : ℕ) (x : A) → position_from p n xs ≡ None → slice_get xs i ≡ Some x → p x ≡ false
position_from-none p n [] i x none got = absurd (cc)
position_from-none p n (y ∷ ys) zero x none got =
    elim (cases_Bool (p y)) [
      | inl e ↦ let bad : Some n ≡ None = rw e at none in absurd (cc)
      | inr e ↦ let same : y ≡ x = cc in ap p (sym same) ∙ e
    ]
position_from-none p n (y ∷ ys) (suc i) x none got =
    elim (cases_Bool (p y)) [
      | inl e ↦ let bad : Some n ≡ None = rw e at none in absurd (cc)
      | inr e ↦ position_from-none p (n + 1) ys i x (rw e at none) got
    ]

-- a pair that no connector has
fresh-pair : (links : List LinkLine) (src dst i : ℕ) (a : LinkLine) → link_at src dst links ≡ None → slice_get links i ≡ Some a → a.src ≡ src → a.dst ≡ dst → ⊥
fresh-pair links src dst i a fresh got same_src same_dst =
    let passes : is_of src dst a ≡ true = and_from (eqb a.src src) (eqb a.dst dst) (eq-eqb a.src src same_src) (eq-eqb a.dst dst same_dst) in
    let fails = position_from-none (is_of src dst) 0 links i a (sym (position_from-zero (is_of src dst) links) ∙ fresh) got in
    cc

-- what stands in a list of one
one-at : {A : Type 0} (x y : A) (k : ℕ) → slice_get (x ∷ []) k ≡ Some y → (k ≡ 0) × (y ≡ x)
one-at x y zero got = (refl, cc)
one-at x y (suc k) got = absurd (cc)

-- what stands at a place, with one member more
push-at : {A : Type 0} (xs : List A) (x y : A) (i : ℕ) → slice_get (xs ++ x ∷ []) i ≡ Some y → (slice_get xs i ≡ Some y) ⊎ ((i ≡ length xs) × (y ≡ x))
push-at xs x y i got = elim (cases_lt i (length xs)) [
  | inl inside ↦ inl (sym (slice_get-append_left xs (x ∷ []) i inside) ∙ got)
  | inr past ↦
      let last = one-at x y (i - length xs) (sym (slice_get-append_right xs (x ∷ []) i (i - length xs) (omega arith)) ∙ got) in
      let none = last.0 in
      inr (omega arith, last.1)
]

-- a connector of a pair that no other has
pairs-push : (links : List LinkLine) (l : LinkLine) → link_at l.src l.dst links ≡ None → AreOfPairs links → AreOfPairs (links ++ l ∷ [])
pairs-push links l fresh pairs = record {
  unique = λ i j a b got_a got_b same_src same_dst.
      elim (push-at links l a i got_a) [
        | inl old_a ↦ elim (push-at links l b j got_b) [
          | inl old_b ↦ pairs.unique i j a b old_a old_b same_src same_dst
          | inr new_b ↦ absurd (fresh-pair links l.src l.dst i a fresh old_a (same_src ∙ ap (λ x. x.src) new_b.1) (same_dst ∙ ap (λ x. x.dst) new_b.1))
        ]
        | inr new_a ↦ elim (push-at links l b j got_b) [
          | inl old_b ↦ absurd (fresh-pair links l.src l.dst j b fresh old_b (sym same_src ∙ ap (λ x. x.src) new_a.1) (sym same_dst ∙ ap (λ x. x.dst) new_a.1))
          | inr new_b ↦ new_a.0 ∙ sym new_b.0
        ]
      ];
}

-- connectors that are over names
record AreLinksOver (names : List SeqName) (links : List LinkLine) : Type 0 where
  ends : All (IsLinkOver names) links
  pairs : AreOfPairs links

-- the connector of a pair
connection-over : (names : List SeqName) (links : List LinkLine) (line src dst : ℕ) (options : List (List ℕ)) (t : Transfer) (o : Option ℕ) → link_at src dst links ≡ o → src < length names → dst < length names → src ≢ dst → AreLinksOver names links → IfOk (connection links line src dst options t o) (λ made. AreLinksOver names made.1)
connection-over names links line src dst options t None is src_below dst_below differ over =
    let l : LinkLine = record { src = src; dst = dst; method = t.method; file = t.file; terms = t.terms; line = line } in
    record {
      ends = All-push (IsLinkOver names) links l over.ends (record { src_below = src_below; dst_below = dst_below; differ = differ });
      pairs = pairs-push links l is over.pairs;
    }
connection-over names links line src dst options t (Some place) is src_below dst_below differ over =
    test-IfOk (λ made. AreLinksOver names made.1) (agrees options t (slice_get links place)) (OptionsDiffer line) _ (λ _. over)

-- two numbers that a test tells apart
apart : (a b : ℕ) → not (eqb a b) ≡ true → a ≢ b
apart a b differ same = let passes = eq-eqb a b same in let bad : false ≡ true = rw passes at differ in cc

-- the connector of a row
link_in-over : (names : List SeqName) (links : List LinkLine) (line : ℕ) (src dst : List ℕ) (options : List (List ℕ)) → AreLinksOver names links → IfOk (link_in links names line src dst options) (λ made. AreLinksOver names made.1)
link_in-over names links line src dst options over =
    let P : (ℕ × List LinkLine) → Type 0 = λ made. AreLinksOver names made.1 in
    bind-IfOk P (ok_or (component_of names src) (ComponentUnknown line)) _ (λ s s_is.
    bind-IfOk P (ok_or (component_of names dst) (ComponentUnknown line)) _ (λ d d_is.
    test-IfOk P (not (eqb s.0 d.0)) (SelfLink line) _ (λ differ.
    bind-IfOk P (transfer_of line options) _ (λ t _.
    let src_at = component-found names (position (λ name. bytes_eq name.name src) names) s (ok_or-some _ (ComponentUnknown line) s s_is) in
    let dst_at = component-found names (position (λ name. bytes_eq name.name dst) names) d (ok_or-some _ (ComponentUnknown line) d d_is) in
    connection-over names links line s.0 d.0 options t (link_at s.0 d.0 links) refl (slice_get_within names s.0 s.1 src_at) (slice_get_within names d.0 d.1 dst_at) (apart s.0 d.0 differ) over))))

-- a connector runs
after_link-over : (names : List SeqName) (r : Reading) (line : ℕ) (src dst : List ℕ) (options : List (List ℕ)) (loops : List ReadLoop) → IsReadingOver names r → All (IsLoopOver names) loops → IfOk (after_link r names line src dst options loops) (IsReadingOver names)
after_link-over names r line src dst options [] over all = tt
after_link-over names r line src dst options (l ∷ more) over all =
    bind-fact (IsReadingOver names) (λ made. AreLinksOver names made.1) (link_in r.links names line src dst options) _
    (link_in-over names r.links line src dst options (record { ends = over.links_over; pairs = over.pairs })) (λ made here.
    record {
      open_over = All-cons (IsLoopOver names) (with_element l (roll-Element (Link made.0))) more
          (body_over-push names l.body (roll-Element (Link made.0)) (All-head (IsLoopOver names) l more all) (subst (All (IsLeafOver names)) (sym (leaves-Link made.0)) (All-nil (IsLeafOver names))))
          (All-tail (IsLoopOver names) l more all);
      loops_over = over.loops_over;
      links_over = here.ends;
      pairs = here.pairs;
    })

-- ---- rows

-- a row, by its form
after_form-over : (time_step : Option ℕ) (names : List SeqName) (r : Reading) (line : ℕ) (form : RowForm) → AreNames names → IsReadingOver names r → IfOk (after_form_filled time_step names r line form) (IsReadingOver names)
after_form-over time_step names r line close asked over = after_close-over names r line r.open_loops over over.open_over
after_form-over time_step names r line (opening step given) asked over = after_opening-over names r time_step line step given over
after_form-over time_step names r line bad_step asked over = tt
after_form-over time_step names r line (link src dst options) asked over = after_link-over names r line src dst options r.open_loops over over.open_over
after_form-over time_step names r line (run component phase) asked over = after_run-over names r line component phase r.open_loops asked over over.open_over
after_form-over time_step names r line bad_element asked over = tt

-- all rows
after_rows-over : (time_step : Option ℕ) (names : List SeqName) (r : Reading) (rows : List Row) → AreNames names → IsReadingOver names r → IfOk (after_rows_filled time_step names r rows) (IsReadingOver names)
after_rows-over time_step names r [] asked over = over
after_rows-over time_step names r (row ∷ rows) asked over =
    bind-fact (IsReadingOver names) (IsReadingOver names) (after_row_filled time_step names r row) _ (after_form-over time_step names r row.line (row_form (row_words row.words)) asked over)
    (λ next here. after_rows-over time_step names next rows asked here)

-- what was read of rows is over the names
pub read_over : (time_step : Option ℕ) (names : List SeqName) (rows : List Row) (r : Reading) → AreNames names → after_rows_filled time_step names empty_reading rows ≡ Ok r → IsReadingOver names r
read_over time_step names rows r asked is =
    let P : Result Reading SeqFault → Type 0 = λ x. IfOk x (IsReadingOver names) in
    subst P is (after_rows-over time_step names empty_reading rows asked (record {
      open_over = All-nil (IsLoopOver names);
      loops_over = All-nil (IsLoopOver names);
      links_over = All-nil (IsLinkOver names);
      pairs = record { unique = λ i j a b got_a got_b same_src same_dst. absurd (cc) };
    }))
