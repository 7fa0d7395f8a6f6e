-- What is kept of a tree tells how many operations it has.
use Rattle.std.proofs.Common.{◌≡◌, ℕ, zero, suc, ◌+◌, ◌*◌, ◌/◌, ◌<◌, ◌≤◌, min, List, [], ◌∷◌, ◌++◌, length, take, drop, get_or, map, Option, refl, sym, ap, ◌∙◌, arith, length-append, append_assoc, append-nil}
use Rattle.std.specs.List.{flat_map}
use Rattle.std.specs.List.Sorted.{IsNonDecreasingBy}
use Rattle.std.proofs.lemmas.List.{drop_all, drop_more}
use Rattle.std.proofs.lemmas.Simd.{map-map}
use Rattle.cpl_sequence.specs.Marks.{body_marks, count_behind, loop_tally, mark_of, marks_behind, marks_by, marks_of_tops, greatest_count, run_count, tally_of, tally_of_top, tally_step}
use Rattle.cpl_sequence.specs.Places.{IsMarkBy}
use Rattle.cpl_sequence.specs.Operations.{iterations, element_ops, body_ops, top_ops}
use Rattle.cpl_sequence.specs.declared.element.Element.{Element, roll-Element}
use Rattle.cpl_sequence.specs.declared.element.Element.TheOpen.{Link, Run, Loop}
use Rattle.cpl_sequence.specs.declared.element.Element.TheFolds.{fold-roll-Element}
use Rattle.cpl_sequence.specs.declared.element.TopLoop.{TopLoop}
use Rattle.cpl_sequence.specs.declared.marks.Mark.{Mark, out-Mark}
use Rattle.cpl_sequence.specs.declared.marks.Mark.TheViews.{out-roll-Mark}
use Rattle.cpl_sequence.specs.declared.marks.Tally.{Tally}
use Rattle.cpl_sequence.specs.declared.op.Op.{Op}
use Rattle.cpl_sequence.proofs.CapFacts.{min-mul-min}
use Rattle.cpl_sequence.proofs.TreeFacts.{Every, every_all, every_map, induction, element_ops-Link, element_ops-Loop, element_ops-Run}
use Rattle.cpl_sequence.proofs.OperationSizes.{length-iterations, length-run_ops, length-body_ops}

-- ---- tallies of elements

-- that of a link
pub tally_of-Link : (link step : ℕ) → tally_of (roll-Element (Link link)) step ≡ record { count = 1; round = 0; body = [] }
tally_of-Link link step = ap (λ f. f step) (fold-roll-Element (ℕ → Tally) tally_step (Link link))

-- that of a run
pub tally_of-Run : (component phase : ℕ) (substep : Option ℕ) (step : ℕ) → tally_of (roll-Element (Run component phase substep)) step ≡ record { count = min (run_count substep step) greatest_count; round = 0; body = [] }
tally_of-Run component phase substep step = ap (λ f. f step) (fold-roll-Element (ℕ → Tally) tally_step (Run component phase substep))

-- that of a loop
pub tally_of-Loop : (inner duration : ℕ) (body : List Element) (step : ℕ) → tally_of (roll-Element (Loop inner duration body)) step ≡ loop_tally inner duration (body_marks body inner)
tally_of-Loop inner duration body step =
    ap (λ f. f step) (fold-roll-Element (ℕ → Tally) tally_step (Loop inner duration body))
    ∙ ap (λ tallies. loop_tally inner duration (marks_by tallies)) (map-map (λ tally. tally inner) tally_of body)

-- ---- counts

-- a member's tally has the number of its operations
abbrev pub IsCounted : {A : Type 0} → (A → Tally) → (A → List Op) → A → Type 0
IsCounted tally operations x = (tally x).count ≡ min (length (operations x)) greatest_count

-- so has what is kept of several
pub count_behind-map : {A : Type 0} (tally : A → Tally) (operations : A → List Op) (before : ℕ) (xs : List A) → before ≤ greatest_count → Every (IsCounted tally operations) xs → count_behind before (map tally xs) ≡ min (before + length (flat_map operations xs)) greatest_count
count_behind-map tally operations before [] fits each = omega arith
count_behind-map tally operations before (x ∷ xs) fits each =
    let here = each.0 in
    let next : min (before + (tally x).count) greatest_count ≤ greatest_count = omega arith in
    omega (arith, here, count_behind-map tally operations (min (before + (tally x).count) greatest_count) xs next each.1, length-append (operations x) (flat_map operations xs))

-- a loop has those of its body at each step
loop-count : (step duration : ℕ) (body : List Element) (time : ℕ) → (body_marks body step).count ≡ min (length (body_ops body 0 step)) greatest_count → (loop_tally step duration (body_marks body step)).count ≡ min (length (iterations (λ start. body_ops body start step) step duration time)) greatest_count
loop-count step duration body time counted =
    let size = length (body_ops body 0 step) in
    let each = λ (start : ℕ). length-body_ops body start step ∙ sym (length-body_ops body 0 step) in
    ap (λ n. min ((duration / step) * n) greatest_count) counted
    ∙ min-mul-min (duration / step) size greatest_count
    ∙ ap (λ n. min n greatest_count) (sym (length-iterations (λ start. body_ops body start step) size each step duration time))

-- the tally of an element has the number of its operations, at each time
pub tally_of-counted : (e : Element) (time step : ℕ) → IsCounted (λ x. tally_of x step) (λ x. element_ops x time step) e
tally_of-counted = induction (λ e. (time step : ℕ) → IsCounted (λ x. tally_of x step) (λ x. element_ops x time step) e)
    (λ link time step. rw (element_ops-Link link time step, tally_of-Link link step) refl)
    (λ component phase substep time step. rw (element_ops-Run component phase substep time step, tally_of-Run component phase substep step, length-run_ops component phase time step substep) refl)
    (λ inner duration body each time step. rw (element_ops-Loop inner duration body time step, tally_of-Loop inner duration body step)
    (loop-count inner duration body time
    (count_behind-map (λ x. tally_of x inner) (λ x. element_ops x 0 inner) 0 body (omega arith) (every_map _ _ (λ e holds. holds 0 inner) body each)
    ∙ ap (λ n. min n greatest_count) (let none : 0 + length (body_ops body 0 inner) ≡ length (body_ops body 0 inner) = omega arith in none))))

-- what is kept of a body has the number of its operations
pub body_marks-count : (body : List Element) (time step : ℕ) → (body_marks body step).count ≡ min (length (body_ops body time step)) greatest_count
body_marks-count body time step =
    let all = count_behind-map (λ x. tally_of x step) (λ x. element_ops x time step) 0 body (omega arith) (every_all _ (λ e. tally_of-counted e time step) body) in
    omega (arith, all)

-- the tally of a top loop has that of its operations
pub tally_of_top-counted : (top : TopLoop) → IsCounted tally_of_top top_ops top
tally_of_top-counted top = loop-count top.step top.duration top.body top.begin (body_marks-count top.body 0 top.step)

-- ---- marks

-- there is one for each member
pub length-marks_behind : (before : ℕ) (tallies : List Tally) → length (marks_behind before tallies) ≡ length tallies
length-marks_behind before [] = refl
length-marks_behind before (tally ∷ tallies) = ap suc (length-marks_behind (min (before + tally.count) greatest_count) tallies)

-- it has how many operations stand before its member
pub marks_behind-before : {A : Type 0} (tally : A → Tally) (operations : A → List Op) (before : ℕ) (xs : List A) (i : ℕ) (d : Mark) → before ≤ greatest_count → Every (IsCounted tally operations) xs → i < length xs → (out-Mark (get_or (marks_behind before (map tally xs)) i d)).before ≡ min (before + length (flat_map operations (take i xs))) greatest_count
marks_behind-before tally operations before [] i d fits each inside = absurd (omega arith)
marks_behind-before tally operations before (x ∷ xs) zero d fits each inside = ap (λ m. m.before) (out-roll-Mark _) ∙ (let same : before ≡ min (before + 0) greatest_count = omega arith in same)
marks_behind-before tally operations before (x ∷ xs) (suc i) d fits each inside =
    let here = each.0 in
    let next : min (before + (tally x).count) greatest_count ≤ greatest_count = omega arith in
    omega (arith, here, marks_behind-before tally operations (min (before + (tally x).count) greatest_count) xs i d next each.1 (omega arith), length-append (operations x) (flat_map operations (take i xs)))

-- and what is kept of it
pub marks_behind-by : {A : Type 0} (tally : A → Tally) (before : ℕ) (xs : List A) (i : ℕ) (x : A) (d : Mark) → i < length xs → IsMarkBy (tally (get_or xs i x)) (get_or (marks_behind before (map tally xs)) i d)
marks_behind-by tally before [] i y d inside = absurd (omega arith)
marks_behind-by tally before (x ∷ xs) zero y d inside = record { round_is = ap (λ m. m.round) (out-roll-Mark _); body_is = ap (λ m. m.body) (out-roll-Mark _) }
marks_behind-by tally before (x ∷ xs) (suc i) y d inside = marks_behind-by tally (min (before + (tally x).count) greatest_count) xs i y d (omega arith)

-- no fewer operations stand before a member than before all
marks_behind-least : (before : ℕ) (tallies : List Tally) (i : ℕ) (d : Mark) → before ≤ greatest_count → i < length (marks_behind before tallies) → before ≤ (out-Mark (get_or (marks_behind before tallies) i d)).before
marks_behind-least before [] i d fits inside = absurd (omega arith)
marks_behind-least before (tally ∷ tallies) zero d fits inside = omega (arith, ap (λ m. m.before) (out-roll-Mark (record { before = before; round = tally.round; body = tally.body })))
marks_behind-least before (tally ∷ tallies) (suc i) d fits inside =
    let next : min (before + tally.count) greatest_count ≤ greatest_count = omega arith in
    omega (arith, marks_behind-least (min (before + tally.count) greatest_count) tallies i d next (omega arith))

-- and their numbers rise
pub marks_behind-rising : (before : ℕ) (tallies : List Tally) → before ≤ greatest_count → IsNonDecreasingBy (λ mark. (out-Mark mark).before) (marks_behind before tallies)
marks_behind-rising before [] fits i j d least inside = absurd (omega arith)
marks_behind-rising before (tally ∷ tallies) fits zero j d least inside = omega (arith, ap (λ m. m.before) (out-roll-Mark (record { before = before; round = tally.round; body = tally.body })), marks_behind-least before (tally ∷ tallies) j d fits inside)
marks_behind-rising before (tally ∷ tallies) fits (suc i) zero d least inside = absurd (omega arith)
marks_behind-rising before (tally ∷ tallies) fits (suc i) (suc j) d least inside =
    let next : min (before + tally.count) greatest_count ≤ greatest_count = omega arith in
    marks_behind-rising (min (before + tally.count) greatest_count) tallies next i j d (omega arith) (omega arith)

-- ---- the code's loops

-- so many members are marked, and what is left leads to all
pub record IsMarking {A : Type 0} (tally : A → Tally) (xs : List A) (i count : ℕ) (marks : List Mark) : Type 0 where
  pub marks_are : marks ++ marks_behind count (map tally (drop i xs)) ≡ marks_behind 0 (map tally xs)
  pub count_is : count_behind count (map tally (drop i xs)) ≡ count_behind 0 (map tally xs)

-- none yet
pub marking_none : {A : Type 0} (tally : A → Tally) (xs : List A) → IsMarking tally xs 0 0 []
marking_none tally xs = record { marks_are = refl; count_is = refl }

-- one more
pub marking_more : {A : Type 0} (tally : A → Tally) (xs : List A) (i count : ℕ) (marks : List Mark) (x : A) (made : Tally) → i < length xs → x ≡ get_or xs i x → made ≡ tally x → IsMarking tally xs i count marks → IsMarking tally xs (i + 1) (min (count + made.count) greatest_count) (marks ++ mark_of count made.round made.body ∷ [])
marking_more tally xs i count marks x made inside here is so_far =
    let split : drop i xs ≡ x ∷ drop (i + 1) xs = drop_more xs i x inside ∙ ap (λ y. y ∷ drop (i + 1) xs) (sym here) in
    let rest = marks_behind (min (count + (tally x).count) greatest_count) (map tally (drop (i + 1) xs)) in
    rw is (record {
      marks_are =
          append_assoc marks (mark_of count (tally x).round (tally x).body ∷ []) rest
          ∙ sym (ap (λ ys. marks ++ marks_behind count (map tally ys)) split)
          ∙ so_far.marks_are;
      count_is = sym (ap (λ ys. count_behind count (map tally ys)) split) ∙ so_far.count_is;
    })

-- all
pub marking_all : {A : Type 0} (tally : A → Tally) (xs : List A) (i count : ℕ) (marks : List Mark) → length xs ≤ i → IsMarking tally xs i count marks → record { count = count; marks = marks } ≡ marks_by (map tally xs)
marking_all tally xs i count marks end so_far =
    let none : drop i xs ≡ [] = drop_all i xs end in
    let count_is : count ≡ count_behind 0 (map tally xs) = sym (ap (λ ys. count_behind count (map tally ys)) none) ∙ so_far.count_is in
    let marks_are : marks ≡ marks_behind 0 (map tally xs) = sym (append-nil marks) ∙ sym (ap (λ ys. marks ++ marks_behind count (map tally ys)) none) ∙ so_far.marks_are in
    λ j. record { count = count_is j; marks = marks_are j }

-- what is kept of top loops has the number of all operations
pub marks_of_tops-count : (tops : List TopLoop) → (marks_of_tops tops).count ≡ min (length (flat_map top_ops tops)) greatest_count
marks_of_tops-count tops =
    let all = count_behind-map tally_of_top top_ops 0 tops (omega arith) (every_all _ tally_of_top-counted tops) in
    omega (arith, all)
