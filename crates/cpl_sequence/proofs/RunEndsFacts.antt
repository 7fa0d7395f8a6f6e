-- What the tree tells of the runs that end is what its operations count.
use Rattle.std.proofs.Common.{◌≡◌, ℕ, zero, suc, ◌+◌, ◌*◌, ◌/◌, ◌%◌, ◌<◌, ◌≤◌, min, Bool, true, false, List, [], ◌∷◌, ◌++◌, length, drop, get_or, map, Option, Some, None, refl, sym, ap, ◌∙◌, arith}
use Rattle.std.specs.Prelude.{pos, ◌==◌, if◌then◌else◌, slice_index_or}
use Rattle.std.specs.List.{flat_map, list_all, range_with_len}
use Rattle.std.proofs.lemmas.Bool.{and_parts, eq-eqb, ne_eqb}
use Rattle.std.proofs.Math.Nat.{div-add-mod}
use Rattle.std.proofs.lemmas.List.{drop_all, drop_more}
use Rattle.std.proofs.lemmas.List.FromFn.{length-range_with_len}
use Rattle.cpl_sequence.specs.Marks.{greatest_count}
use Rattle.cpl_sequence.specs.Operations.{body_ops, element_ops, iterations, numbers_below, run_ops, top_ops}
use Rattle.cpl_sequence.specs.RunEnds.{body_ends, capped_total, element_ends, end_count, end_total, ends_step, loop_ends, top_ends}
use Rattle.cpl_sequence.specs.Sound.{is_substep, is_timed, is_timed_top}
use Rattle.cpl_sequence.specs.declared.element.Element.{Element, roll-Element}
use Rattle.cpl_sequence.specs.declared.element.Element.TheOpen.{Element-F, Link, Run, Loop}
use Rattle.cpl_sequence.specs.declared.element.Element.TheFolds.{fold-Element, fold-roll-Element}
use Rattle.cpl_sequence.specs.declared.element.TopLoop.{TopLoop}
use Rattle.cpl_sequence.specs.declared.op.Op.{Op}
use Rattle.cpl_sequence.specs.declared.op.Op.TheVariants.{Run as RunOp}
use Rattle.cpl_sequence.proofs.CapFacts.{min-mul-min}
use Rattle.cpl_sequence.proofs.SoundFacts.{inner_from, loop_from, part_from}
use Rattle.cpl_sequence.proofs.TreeFacts.{Every, every_all, induction, element_ops-Link, element_ops-Loop, element_ops-Run, is_timed-Run}

-- what is no remainder is a product, and its factor isn't 0
quotient-some : (whole part q r : ℕ) → part * q + r ≡ whole → r ≡ 0 → 0 < whole → 0 < q
quotient-some whole part zero r is none some = absurd (omega arith)
quotient-some whole part (suc q) r is none some = omega arith

-- a number that divides one above 0 stands in it at least once
parts-some : (whole part : ℕ) → 0 < whole → whole % part ≡ 0 → 0 < whole / part
parts-some whole part some exact = quotient-some whole part (whole / part) (whole % part) (div-add-mod whole part) exact some

module _ (counts : List ℕ) where
  -- ---- elements

  pub element_ends-Link : (link : ℕ) → element_ends counts (roll-Element (Link link)) ≡ 0
  element_ends-Link link = fold-roll-Element ℕ (ends_step counts) (Link link)

  pub element_ends-Run : (component phase : ℕ) (substep : Option ℕ) → element_ends counts (roll-Element (Run component phase substep)) ≡ slice_index_or counts component 0
  element_ends-Run component phase substep = fold-roll-Element ℕ (ends_step counts) (Run component phase substep)

  pub element_ends-Loop : (inner duration : ℕ) (body : List Element) → element_ends counts (roll-Element (Loop inner duration body)) ≡ loop_ends inner duration (body_ends counts body)
  element_ends-Loop inner duration body = fold-roll-Element ℕ (ends_step counts) (Loop inner duration body)

  -- ---- totals

  end_total-append : (xs ys : List Op) → end_total counts (xs ++ ys) ≡ end_total counts xs + end_total counts ys
  end_total-append [] ys = omega arith
  end_total-append (x ∷ xs) ys = omega (arith, end_total-append xs ys)

  -- lists of one total, joined
  end_total-flat_map : {A : Type 0} (f : A → List Op) (n : ℕ) → ((x : A) → end_total counts (f x) ≡ n) → (xs : List A) → end_total counts (flat_map f xs) ≡ length xs * n
  end_total-flat_map f n one [] = omega arith
  end_total-flat_map f n one (x ∷ xs) = omega (arith, end_total-append (f x) (flat_map f xs), one x, end_total-flat_map f n one xs)

  end_total-iterations : (body : ℕ → List Op) (n : ℕ) → ((time : ℕ) → end_total counts (body time) ≡ n) → (step duration time : ℕ) → end_total counts (iterations body step duration time) ≡ (duration / step) * n
  end_total-iterations body n one step duration time =
      end_total-flat_map (λ i. body (time + i * step)) n (λ i. one (time + i * step)) (numbers_below (duration / step))
      ∙ ap (λ m. m * n) (length-range_with_len 0 (duration / step))

  -- of the operations of a step the last alone counts
  last-counts : (f : ℕ → Bool → Op) (count n a k : ℕ) → ((i : ℕ) (last : Bool) → end_count counts (f i last) ≡ (if last then count else 0)) → a + k ≡ n → 0 < k
      → end_total counts (map (λ i. f i (i + 1 == n)) (range_with_len a k)) ≡ count
  last-counts f count n a zero each end some = absurd (omega arith)
  last-counts f count n a (suc zero) each end some =
      let is_last : (a + 1 == n) ≡ true = eq-eqb (a + 1) n (omega arith) in
      let here : end_count counts (f a (a + 1 == n)) ≡ count = each a (a + 1 == n) ∙ ap (λ b. if b then count else 0) is_last in
      omega (arith, here)
  last-counts f count n a (suc (suc k)) each end some =
      let is_other : (a + 1 == n) ≡ false = ne_eqb (a + 1) n (λ same. absurd (omega arith)) in
      let here : end_count counts (f a (a + 1 == n)) ≡ 0 = each a (a + 1 == n) ∙ ap (λ b. if b then count else 0) is_other in
      omega (arith, here, last-counts f count n (a + 1) (suc k) each (omega arith) (omega arith))

  -- one run counts once
  run-counts : (component phase time step : ℕ) (substep : Option ℕ) → 0 < step → is_substep substep step ≡ true → end_total counts (run_ops component phase time step substep) ≡ slice_index_or counts component 0
  run-counts component phase time step None some timed = omega arith
  run-counts component phase time step (Some substep) some timed =
      let part = part_from substep step timed in
      last-counts (λ i last. RunOp component phase (pos time) (pos step) (pos (time + i * substep)) (pos substep) (i == 0) last) (slice_index_or counts component 0) (step / substep) 0 (step / substep)
      (λ i last. refl) (omega arith) (parts-some step substep some part.exact)

  -- ---- what elements count, without a cap

  total_of : List ℕ → ℕ
  total_of [] = 0
  total_of (n ∷ ns) = n + total_of ns

  full_step : Element-F ℕ → ℕ
  full_step (Link link) = 0
  full_step (Run component phase substep) = slice_index_or counts component 0
  full_step (Loop inner duration body) = (duration / inner) * total_of body

  full_ends : Element → ℕ
  full_ends = fold-Element ℕ full_step

  full_ends-Loop : (inner duration : ℕ) (body : List Element) → full_ends (roll-Element (Loop inner duration body)) ≡ (duration / inner) * total_of (map full_ends body)
  unfolding full_ends full_step
  full_ends-Loop inner duration body = fold-roll-Element ℕ full_step (Loop inner duration body)

  full_ends-Run : (component phase : ℕ) (substep : Option ℕ) → full_ends (roll-Element (Run component phase substep)) ≡ slice_index_or counts component 0
  unfolding full_ends full_step
  full_ends-Run component phase substep = fold-roll-Element ℕ full_step (Run component phase substep)

  full_ends-Link : (link : ℕ) → full_ends (roll-Element (Link link)) ≡ 0
  unfolding full_ends full_step
  full_ends-Link link = fold-roll-Element ℕ full_step (Link link)

  -- the operations of a timed element count as the tree says, at each time
  abbrev IsFull : Element → Type 0
  IsFull e = (time step : ℕ) → 0 < step → is_timed e step ≡ true → end_total counts (element_ops e time step) ≡ full_ends e

  full-body : (body : List Element) → Every IsFull body → (time step : ℕ) → 0 < step → list_all (λ e. is_timed e step) body ≡ true → end_total counts (body_ops body time step) ≡ total_of (map full_ends body)
  unfolding total_of
  full-body [] each time step some timed = refl
  full-body (e ∷ body) each time step some timed =
      let parts = and_parts (is_timed e step) (list_all (λ e. is_timed e step) body) timed in
      omega (arith, end_total-append (element_ops e time step) (body_ops body time step), each.0 time step some parts.0, full-body body each.1 time step some parts.1)

  element-full : (e : Element) → IsFull e
  element-full = induction IsFull
      (λ link time step some timed. rw (element_ops-Link link time step, full_ends-Link link) refl)
      (λ component phase substep time step some timed.
      rw (element_ops-Run component phase substep time step, full_ends-Run component phase substep)
      (run-counts component phase time step substep some (sym (is_timed-Run component phase substep step) ∙ timed)))
      (λ inner duration body each time step some timed.
      let loop = (inner_from inner duration body step timed).loop in
      rw (element_ops-Loop inner duration body time step, full_ends-Loop inner duration body)
      (end_total-iterations (λ start. body_ops body start inner) (total_of (map full_ends body)) (λ start. full-body body each start inner loop.step_some loop.each) inner duration time))

  -- ---- with a cap

  module _ (small : (component : ℕ) → slice_index_or counts component 0 ≤ greatest_count) where
    abbrev IsCapped : Element → Type 0
    IsCapped e = element_ends counts e ≡ min (full_ends e) greatest_count

    capped-body : (before : ℕ) (body : List Element) → before ≤ greatest_count → Every IsCapped body → capped_total before (map (element_ends counts) body) ≡ min (before + total_of (map full_ends body)) greatest_count
    unfolding total_of
    capped-body before [] fits each = omega arith
    capped-body before (e ∷ body) fits each =
        let next : min (before + element_ends counts e) greatest_count ≤ greatest_count = omega arith in
        let here = each.0 in
        omega (arith, here, capped-body (min (before + element_ends counts e) greatest_count) body next each.1)

    element-capped : (e : Element) → IsCapped e
    element-capped = induction IsCapped
        (λ link. rw (element_ends-Link link, full_ends-Link link) refl)
        (λ component phase substep. rw (element_ends-Run component phase substep, full_ends-Run component phase substep) (let few = small component in omega (arith, few)))
        (λ inner duration body each.
        let all = capped-body 0 body (omega arith) each in
        let total = total_of (map full_ends body) in
        let capped : body_ends counts body ≡ min total greatest_count = all ∙ ap (λ n. min n greatest_count) (let none : 0 + total ≡ total = omega arith in none) in
        rw (element_ends-Loop inner duration body, full_ends-Loop inner duration body)
        (ap (λ n. min ((duration / inner) * n) greatest_count) capped ∙ min-mul-min (duration / inner) total greatest_count))

    -- a loop that stands in no other counts what its operations do
    top-counts : (top : TopLoop) → is_timed_top top ≡ true → top_ends counts top ≡ min (end_total counts (top_ops top)) greatest_count
    top-counts top timed =
        let loop = loop_from (λ e. is_timed e top.step) top.step top.duration top.body timed in
        let total = total_of (map full_ends top.body) in
        let all = capped-body 0 top.body (omega arith) (every_all IsCapped element-capped top.body) in
        let capped : body_ends counts top.body ≡ min total greatest_count = all ∙ ap (λ n. min n greatest_count) (let none : 0 + total ≡ total = omega arith in none) in
        let full = end_total-iterations (λ start. body_ops top.body start top.step) total
        (λ start. full-body top.body (every_all IsFull element-full top.body) start top.step loop.step_some loop.each) top.step top.duration top.begin in
        ap (λ n. min ((top.duration / top.step) * n) greatest_count) capped ∙ min-mul-min (top.duration / top.step) total greatest_count ∙ ap (λ n. min n greatest_count) (sym full)

    -- and so do all
    pub tops-count : (before : ℕ) (tops : List TopLoop) → before ≤ greatest_count → list_all is_timed_top tops ≡ true
        → capped_total before (map (top_ends counts) tops) ≡ min (before + end_total counts (flat_map top_ops tops)) greatest_count
    tops-count before [] fits timed = omega arith
    tops-count before (top ∷ tops) fits timed =
        let parts = and_parts (is_timed_top top) (list_all is_timed_top tops) timed in
        let next : min (before + top_ends counts top) greatest_count ≤ greatest_count = omega arith in
        let here = top-counts top parts.0 in
        omega (arith, here, tops-count (min (before + top_ends counts top) greatest_count) tops next parts.1, end_total-append (top_ops top) (flat_map top_ops tops))

-- ---- the code's loops

-- a member more is counted
pub total-more : {A : Type 0} (count : A → ℕ) (xs : List A) (i total : ℕ) (x : A) → i < length xs → x ≡ get_or xs i x → capped_total total (map count (drop i xs)) ≡ capped_total 0 (map count xs)
    → capped_total (min (total + count x) greatest_count) (map count (drop (i + 1) xs)) ≡ capped_total 0 (map count xs)
total-more count xs i total x inside here so_far =
    let split : drop i xs ≡ x ∷ drop (i + 1) xs = drop_more xs i x inside ∙ ap (λ y. y ∷ drop (i + 1) xs) (sym here) in
    sym (ap (λ ys. capped_total total (map count ys)) split) ∙ so_far

-- all are
pub total-all : {A : Type 0} (count : A → ℕ) (xs : List A) (i total : ℕ) → length xs ≤ i → capped_total total (map count (drop i xs)) ≡ capped_total 0 (map count xs) → total ≡ capped_total 0 (map count xs)
total-all count xs i total end so_far = sym (ap (λ ys. capped_total total (map count ys)) (drop_all i xs end)) ∙ so_far
