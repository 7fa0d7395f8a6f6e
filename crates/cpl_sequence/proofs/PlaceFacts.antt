-- Where the k-th operation stands.
use Rattle.std.proofs.Common.{◌≡◌, ℕ, zero, suc, ◌+◌, ◌*◌, ◌-◌, ◌/◌, ◌%◌, true, false, leb, ◌<◌, ◌≤◌, min, List, [], ◌∷◌, ◌++◌, length, take, drop, get_or, map, refl, sym, ap, ◌∙◌, inl, inr, arith, length-append, zero-add}
use Rattle.std.specs.Prelude.{slice_get}
use Rattle.std.specs.List.{flat_map, range_with_len}
use Rattle.std.specs.List.Sorted.{IsPartitionPoint}
use Rattle.std.proofs.lemmas.Bool.{cases_lt, leb-false, leb-true}
use Rattle.std.proofs.lemmas.Grind.{flat_map-append}
use Rattle.std.proofs.lemmas.List.{drop_all, drop_more, length-map, take-append-drop, take_more}
use Rattle.std.proofs.lemmas.Nat.{div-add-mod', div_below, mod_below}
use Rattle.std.proofs.Math.Nat.{div-mul-le_self, mod-eq_of_lt, mod-le, mul-le-mul_right}
use Rattle.cpl_sequence.specs.Marks.{AreRising, IsLastUpTo, body_marks, loop_tally, marks_behind, marks_of_tops, greatest_count, tally_of, tally_of_top}
use Rattle.cpl_sequence.specs.Places.{IsAtBody, IsAtElement, IsAtTop, IsPlaced}
use Rattle.cpl_sequence.specs.Sequence.{Sequence}
use Rattle.cpl_sequence.specs.Sound.{IsSound, is_timed}
use Rattle.cpl_sequence.specs.Operations.{iterations, element_ops, body_ops, top_ops, operations_of}
use Rattle.cpl_sequence.specs.declared.element.Element.{Element}
use Rattle.cpl_sequence.specs.declared.element.Element.TheVariants.{Loop as LoopVariant}
use Rattle.cpl_sequence.specs.declared.element.TopLoop.{TopLoop}
use Rattle.cpl_sequence.specs.declared.marks.Mark.{Mark, out-Mark}
use Rattle.cpl_sequence.specs.declared.marks.Mark.TheViews.{out-roll-Mark}
use Rattle.cpl_sequence.specs.declared.marks.Tally.{Tally}
use Rattle.cpl_sequence.specs.declared.op.Op.{Op}
use Rattle.cpl_sequence.proofs.ListFacts.{slice_get-append_left, slice_get-append_right}
use Rattle.cpl_sequence.proofs.MarkFacts.{IsCounted, body_marks-count, length-marks_behind, marks_behind-before, marks_behind-by, marks_behind-rising, tally_of-Loop, tally_of-counted, tally_of_top-counted}
use Rattle.cpl_sequence.proofs.SoundFacts.{inner_at, list_all-get_or}
use Rattle.cpl_sequence.proofs.TopLoopFacts.{top_at, top_from}
use Rattle.cpl_sequence.proofs.TreeFacts.{Every, at_Loop, every_all, element_ops-Loop}
use Rattle.cpl_sequence.proofs.OperationSizes.{length-iterations, length-body_ops}

-- ---- one of several members

-- marks of members of which some has operations rise from 0
pub rising : {A : Type 0} (tally : A → Tally) (operations : A → List Op) (xs : List A) (k : ℕ) → k < length (flat_map operations xs) → AreRising (marks_behind 0 (map tally xs))
rising tally operations [] k below = absurd (omega arith)
rising tally operations (x ∷ xs) k below = record {
  some = omega arith;
  first = λ d. ap (λ m. m.before) (out-roll-Mark _);
  rising = marks_behind-rising 0 (map tally (x ∷ xs)) (omega arith);
}

-- operations before a member, its own, and those behind it
split_at : {A : Type 0} (operations : A → List Op) (xs : List A) (place : ℕ) (x : A) → place < length xs → x ≡ get_or xs place x → flat_map operations xs ≡ flat_map operations (take place xs) ++ (operations x ++ flat_map operations (drop (place + 1) xs))
split_at operations xs place x inside is =
    ap (flat_map operations) (sym (take-append-drop place xs))
    ∙ flat_map-append operations (take place xs) (drop place xs)
    ∙ ap (λ ys. flat_map operations (take place xs) ++ flat_map operations ys) (drop_more xs place x inside ∙ ap (λ y. y ∷ drop (place + 1) xs) (sym is))

-- how many operations stand before the next member
before_next : {A : Type 0} (operations : A → List Op) (xs : List A) (place : ℕ) (x : A) → place < length xs → x ≡ get_or xs place x → length (flat_map operations (take (place + 1) xs)) ≡ length (flat_map operations (take place xs)) + length (operations x)
before_next operations xs place x inside is =
    let one = take_more xs place x inside in
    let split : flat_map operations (take (place + 1) xs) ≡ flat_map operations (take place xs) ++ flat_map operations (x ∷ []) =
    ap (flat_map operations) (one ∙ ap (λ y. take place xs ++ y ∷ []) (sym is)) ∙ flat_map-append operations (take place xs) (x ∷ []) in
    omega (arith, ap length split, length-append (flat_map operations (take place xs)) (operations x ++ []), length-append (operations x) [])

-- an operation is one of the last member before which at most so many stand
pub placed : {A : Type 0} (tally : A → Tally) (operations : A → List Op) (xs : List A) (k place : ℕ) (x : A) (mark : Mark) → Every (IsCounted tally operations) xs → k < length (flat_map operations xs) → k < greatest_count → IsLastUpTo (marks_behind 0 (map tally xs)) k place → place < length xs → x ≡ get_or xs place x → mark ≡ get_or (marks_behind 0 (map tally xs)) place mark → ((out-Mark mark).before ≤ k) × IsPlaced operations xs k (k - (out-Mark mark).before) x
placed tally operations xs k place x mark each below small last inside is mark_is =
    let marks = marks_behind 0 (map tally xs) in
    let n = length (flat_map operations (take place xs)) in
    let behind = flat_map operations (drop (place + 1) xs) in
    let before : (out-Mark mark).before ≡ min (0 + n) greatest_count = ap (λ m. (out-Mark m).before) mark_is ∙ marks_behind-before tally operations 0 xs place mark (omega arith) each inside in
    let here : (out-Mark mark).before ≤ k = rw (ap (λ m. (out-Mark m).before) mark_is) (last.here mark) in
    let exact : (out-Mark mark).before ≡ n = omega arith in
    let split = split_at operations xs place x inside is in
    let all : length (flat_map operations xs) ≡ n + (length (operations x) + length behind) = omega (arith, ap length split, length-append (flat_map operations (take place xs)) (operations x ++ behind), length-append (operations x) behind) in
    let short : k < n + length (operations x) = elim (cases_lt (place + 1) (length xs)) [
      | inl more ↦
          let next = last.next mark (let m : place + 1 < length marks = omega (arith, length-marks_behind 0 (map tally xs), length-map xs tally) in m) in
          omega (arith, next, marks_behind-before tally operations 0 xs (place + 1) mark (omega arith) each more, before_next operations xs place x inside is)
      | inr end ↦
          let none : length behind ≡ 0 = ap (λ ys. length (flat_map operations ys)) (drop_all (place + 1) xs end) in
          omega arith
    ] in (
      here,
      record {
        below = omega arith;
        same =
            ap (λ ops. slice_get ops k) split
            ∙ slice_get-append_right (flat_map operations (take place xs)) (operations x ++ behind) k (k - (out-Mark mark).before) (omega arith)
            ∙ slice_get-append_left (operations x) behind (k - (out-Mark mark).before) (omega arith);
      },
    )

-- ---- one of several iterations

-- the k-th operation of iterations from one on
get-iterations_from : (body : ℕ → List Op) (size : ℕ) → ((n : ℕ) → length (body n) ≡ size) → (from count k n r : ℕ) → k ≡ n * size + r → r < size → n < count → slice_get (flat_map body (range_with_len from count)) k ≡ slice_get (body (from + n)) r
get-iterations_from body size each from zero k n r is below inside = absurd (omega arith)
get-iterations_from body size each from (suc count) k zero r is below inside =
    let same : k ≡ r = omega arith in
    let here : from + 0 ≡ from = omega arith in
    rw (here, same) (slice_get-append_left (body from) (flat_map body (range_with_len (from + 1) count)) r (omega (arith, each from)))
get-iterations_from body size each from (suc count) k (suc n) r is below inside =
    let split : k ≡ size + (n * size + r) = grind arith in
    let next : from + suc n ≡ from + 1 + n = omega arith in
    rw next
    (slice_get-append_right (body from) (flat_map body (range_with_len (from + 1) count)) k (n * size + r) (omega (arith, split, each from))
    ∙ get-iterations_from body size each (from + 1) count (n * size + r) n r refl below (omega arith))

-- a product above a number has a second factor
some_factor : (a b k : ℕ) → k < a * b → 0 < b
some_factor a zero k below = absurd (omega arith)
some_factor a (suc b) k below = omega arith

-- the k-th operation of a loop, by division
get-iterations : (body : ℕ → List Op) (size step duration time k : ℕ) → ((start : ℕ) → length (body start) ≡ size) → k < (duration / step) * size → slice_get (iterations body step duration time) k ≡ slice_get (body (time + (k / size) * step)) (k % size)
get-iterations body size step duration time k each below =
    let some : 0 < size = some_factor (duration / step) size k below in
    get-iterations_from (λ n. body (time + n * step)) size (λ n. each (time + n * step)) 0 (duration / step) k (k / size) (k % size) (sym (div-add-mod' k size)) (mod_below k size some) (div_below k size (duration / step) some below)
    ∙ ap (λ n. slice_get (body (time + n * step)) (k % size)) (zero-add (k / size))

-- a number below another goes into it not once
div-below : (k n : ℕ) → k < n → k / n ≡ 0
div-below k n below = let less : k / n < 1 = div_below k n 1 (omega arith) (omega arith) in omega arith

-- division by a capped number
capped-division : (k size round : ℕ) → round ≡ min size greatest_count → 0 < size → k < greatest_count → (0 < round) × (k / round ≡ k / size) × (k % round ≡ k % size)
capped-division k size round is some small = elim (cases_lt size greatest_count) [
  | inl fits ↦ let same : round ≡ size = omega arith in (omega arith, ap (λ n. k / n) same, ap (λ n. k % n) same)
  | inr over ↦
      let same : round ≡ greatest_count = omega arith in
      let less : k < round = omega arith in
      let below : k < size = omega arith in
      (omega arith, div-below k round less ∙ sym (div-below k size below), mod-eq_of_lt less ∙ sym (mod-eq_of_lt below))
]

-- a loop's k-th operation, as one of an iteration, by the number that is kept
pub record IsIterated (body : List Element) (step duration time k round : ℕ) : Type 0 where
  pub some : 0 < round
  pub fits : (k / round) * step + step ≤ duration
  pub below : k % round < length (body_ops body (time + (k / round) * step) step)
  pub small : k % round < greatest_count
  pub same : slice_get (iterations (λ start. body_ops body start step) step duration time) k ≡ slice_get (body_ops body (time + (k / round) * step) step) (k % round)

-- each operation of a loop is one of an iteration
iterated : (body : List Element) (step duration time k round : ℕ) → round ≡ (body_marks body step).count → k < length (iterations (λ start. body_ops body start step) step duration time) → k < greatest_count → IsIterated body step duration time k round
iterated body step duration time k round round_is below small =
    let size = length (body_ops body 0 step) in
    let each = λ (start : ℕ). length-body_ops body start step ∙ sym (length-body_ops body 0 step) in
    let inside : k < (duration / step) * size = rw (← length-iterations (λ start. body_ops body start step) size each step duration time) below in
    let some : 0 < size = some_factor (duration / step) size k inside in
    let number : k / size < duration / step = div_below k size (duration / step) some inside in
    let capped = capped-division k size round (round_is ∙ body_marks-count body 0 step) some small in
    record {
      some = capped.0;
      fits = rw capped.1 (omega (arith, mul-le-mul_right step (let h : suc (k / size) ≤ duration / step = omega arith in h), div-mul-le_self duration step));
      below = rw (capped.2, each (time + (k / round) * step)) (mod_below k size some);
      small = rw capped.2 (omega (arith, mod-le k size));
      same = rw (capped.1, capped.2) (get-iterations (λ start. body_ops body start step) size step duration time k each inside);
    }

-- ---- down the tree

-- a body's operation, as one of an element
pub record IsOfElement (body : List Element) (element : Element) (mark : Mark) (time step k : ℕ) : Type 0 where
  pub early : (out-Mark mark).before ≤ k
  pub at : IsAtElement element mark time step (k - (out-Mark mark).before)
  pub same : slice_get (body_ops body time step) k ≡ slice_get (element_ops element time step) (k - (out-Mark mark).before)

-- the marks of a body rise
pub body-rising : (body : List Element) (marks : List Mark) (time step k : ℕ) → IsAtBody body marks time step k → AreRising marks
body-rising body marks time step k at = rw at.marked (rising (λ e. tally_of e step) (λ e. element_ops e time step) body k at.below)

-- there are as many as elements
pub body-inside : (body : List Element) (marks : List Mark) (time step k place : ℕ) → IsAtBody body marks time step k → place < length marks → place < length body
body-inside body marks time step k place at inside =
    omega (arith, ap length at.marked, length-marks_behind 0 (map (λ e. tally_of e step) body), length-map body (λ e. tally_of e step))

-- the search finds the element
pub body-element : (body : List Element) (marks : List Mark) (time step k place : ℕ) (element : Element) (mark : Mark) → IsAtBody body marks time step k → IsLastUpTo marks k place → element ≡ get_or body place element → mark ≡ get_or marks place mark → IsOfElement body element mark time step k
body-element body marks time step k place element mark at last is mark_is =
    let tally = λ (e : Element). tally_of e step in
    let inside = body-inside body marks time step k place at last.inside in
    let mark_at : mark ≡ get_or (marks_behind 0 (map tally body)) place mark = mark_is ∙ ap (λ ms. get_or ms place mark) at.marked in
    let there : IsLastUpTo (marks_behind 0 (map tally body)) k place = rw (← at.marked) last in
    let found = placed tally (λ e. element_ops e time step) body k place element mark (every_all _ (λ e. tally_of-counted e time step) body) at.below at.small there inside is mark_at in
    record {
      early = found.0;
      at = record {
        timed = ap (λ e. is_timed e step) is ∙ list_all-get_or (λ e. is_timed e step) body place element inside at.timed;
        some = at.some;
        early = at.early;
        below = found.1.below;
        small = omega (arith, at.small);
        marked = rw (mark_at, is) (marks_behind-by tally 0 body place element mark inside);
      };
      same = found.1.same;
    }

-- a loop's operation, as one of its body
pub record IsOfBody (element : Element) (body : List Element) (mark : Mark) (inner time step k : ℕ) : Type 0 where
  pub some : 0 < (out-Mark mark).round
  pub at : IsAtBody body (out-Mark mark).body (time + (k / (out-Mark mark).round) * inner) inner (k % (out-Mark mark).round)
  pub same : slice_get (element_ops element time step) k ≡ slice_get (body_ops body (time + (k / (out-Mark mark).round) * inner) inner) (k % (out-Mark mark).round)

-- each operation of a loop in a loop is one of its body
pub element-body : (element : Element) (inner duration : ℕ) (body : List Element) (mark : Mark) (time step k : ℕ) → element ≡ LoopVariant inner duration body → IsAtElement element mark time step k → IsOfBody element body mark inner time step k
element-body element inner duration body mark time step k is at =
    let sound = inner_at element inner duration body step is at.timed in
    let same : element_ops element time step ≡ iterations (λ start. body_ops body start inner) inner duration time = ap (λ x. element_ops x time step) (at_Loop element inner duration body is) ∙ element_ops-Loop inner duration body time step in
    let tally : tally_of element step ≡ loop_tally inner duration (body_marks body inner) = ap (λ x. tally_of x step) (at_Loop element inner duration body is) ∙ tally_of-Loop inner duration body step in
    let it = iterated body inner duration time k (out-Mark mark).round (at.marked.round_is ∙ ap (λ t. t.round) tally) (rw (← same) at.below) at.small in
    record {
      some = it.some;
      at = record {
        timed = sound.loop.each;
        some = sound.loop.step_some;
        early = omega (arith, it.fits, sound.within, at.early);
        below = it.below;
        small = it.small;
        marked = at.marked.body_is ∙ ap (λ t. t.body) tally;
      };
      same = ap (λ xs. slice_get xs k) same ∙ it.same;
    }

-- a top loop's operation, as one of its body
pub record IsOfTopBody (top : TopLoop) (mark : Mark) (k : ℕ) : Type 0 where
  pub some : 0 < (out-Mark mark).round
  pub at : IsAtBody top.body (out-Mark mark).body (top.begin + (k / (out-Mark mark).round) * top.step) top.step (k % (out-Mark mark).round)
  pub same : slice_get (top_ops top) k ≡ slice_get (body_ops top.body (top.begin + (k / (out-Mark mark).round) * top.step) top.step) (k % (out-Mark mark).round)

-- each operation of a top loop is one of its body
pub top-body : (top : TopLoop) (mark : Mark) (k : ℕ) → IsAtTop top mark k → IsOfTopBody top mark k
top-body top mark k at =
    let sound = top_from top at.timed in
    let it = iterated top.body top.step top.duration top.begin k (out-Mark mark).round at.marked.round_is at.below at.small in
    record {
      some = it.some;
      at = record {
        timed = sound.each;
        some = sound.step_some;
        early = omega (arith, it.fits, at.early);
        below = it.below;
        small = it.small;
        marked = at.marked.body_is;
      };
      same = it.same;
    }

-- ---- the search

-- where marks rise, the one before the first above a number is the last up to it
pub last-from_point : (marks : List Mark) (k count : ℕ) → AreRising marks → count ≤ length marks → IsPartitionPoint (λ mark. leb (out-Mark mark).before k ≡ true) (λ mark. leb (out-Mark mark).before k ≡ false) marks count → (1 ≤ count) × IsLastUpTo marks k (count - 1)
last-from_point [] k count rising fits point = let some = rising.some in absurd (omega arith)
last-from_point (mark ∷ marks) k zero rising fits point =
    let above = leb-false (out-Mark mark).before k (point.1 0 mark (omega arith) (omega arith)) in
    absurd (omega (arith, above, rising.first mark))
last-from_point (mark ∷ marks) k (suc place) rising fits point =
    let same : suc place - 1 ≡ place = omega arith in
    let next : place + 1 ≡ suc place = omega arith in (
      omega arith,
      rw same (record {
        inside = omega arith;
        here = λ d. leb-true (out-Mark (get_or (mark ∷ marks) place d)).before k (point.0 place d (omega arith) (omega arith));
        next = λ d more. rw next (leb-false (out-Mark (get_or (mark ∷ marks) (suc place) d)).before k (point.1 (suc place) d (omega arith) (omega arith)));
      }),
    )

-- ---- a sequence

-- what code has of a sequence whose k-th operation it looks for
pub record IsSought (seq : Sequence) (loops : List TopLoop) (marks : List Mark) (k : ℕ) : Type 0 where
  pub sound : IsSound seq
  pub loops_are : loops ≡ seq.loops
  pub marks_are : marks ≡ (marks_of_tops seq.loops).marks
  pub below : k < min (length (operations_of seq)) greatest_count

-- the marks of its loops rise
pub tops-rising : (seq : Sequence) (marks : List Mark) (k : ℕ) → marks ≡ (marks_of_tops seq.loops).marks → k < min (length (operations_of seq)) greatest_count → AreRising marks
tops-rising seq marks k is below = rw is (rising tally_of_top top_ops seq.loops k (omega arith))

-- there are as many as loops
pub tops-inside : (seq : Sequence) (loops : List TopLoop) (marks : List Mark) (place : ℕ) → loops ≡ seq.loops → marks ≡ (marks_of_tops seq.loops).marks → place < length marks → place < length loops
tops-inside seq loops marks place loops_are is inside =
    omega (arith, ap length loops_are, ap length is, length-marks_behind 0 (map tally_of_top seq.loops), length-map seq.loops tally_of_top)

-- its operation, as one of a top loop
pub record IsOfTop (seq : Sequence) (top : TopLoop) (mark : Mark) (k : ℕ) : Type 0 where
  pub early : (out-Mark mark).before ≤ k
  pub at : IsAtTop top mark (k - (out-Mark mark).before)
  pub same : slice_get (operations_of seq) k ≡ slice_get (top_ops top) (k - (out-Mark mark).before)

-- the search finds the loop
pub tops-top : (seq : Sequence) (loops : List TopLoop) (marks : List Mark) (k place : ℕ) (top : TopLoop) (mark : Mark) → IsSought seq loops marks k → IsLastUpTo marks k place → top ≡ get_or loops place top → mark ≡ get_or marks place mark → IsOfTop seq top mark k
tops-top seq loops marks k place top mark sought last is mark_is =
    let inside = tops-inside seq loops marks place sought.loops_are sought.marks_are last.inside in
    let within : place < length seq.loops = omega (arith, inside, ap length sought.loops_are) in
    let top_is : top ≡ get_or seq.loops place top = is ∙ ap (λ ts. get_or ts place top) sought.loops_are in
    let mark_at : mark ≡ get_or (marks_behind 0 (map tally_of_top seq.loops)) place mark = mark_is ∙ ap (λ ms. get_or ms place mark) sought.marks_are in
    let there : IsLastUpTo (marks_behind 0 (map tally_of_top seq.loops)) k place = rw (← sought.marks_are) last in
    let few = sought.below in
    let found = placed tally_of_top top_ops seq.loops k place top mark (every_all _ tally_of_top-counted seq.loops) (omega arith) (omega arith) there within top_is mark_at in
    let fits = top_at seq loops place top sought.loops_are sought.sound inside is in
    record {
      early = found.0;
      at = record {
        timed = fits.timed;
        early = fits.early;
        below = found.1.below;
        small = omega arith;
        marked = rw (mark_at, top_is) (marks_behind-by tally_of_top 0 seq.loops place top mark within);
      };
      same = found.1.same;
    }
