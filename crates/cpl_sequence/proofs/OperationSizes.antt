-- How many operations there are.
use Rattle.std.proofs.Common.{◌≡◌, ℕ, ◌+◌, ◌*◌, ◌/◌, List, [], ◌∷◌, length, map, Option, Some, None, refl, ap, ◌∙◌, arith, length-append}
use Rattle.std.specs.List.{flat_map}
use Rattle.std.proofs.lemmas.List.{length-map}
use Rattle.std.proofs.lemmas.List.FromFn.{length-range_with_len}
use Rattle.cpl_sequence.specs.Marks.{run_count}
use Rattle.cpl_sequence.specs.Operations.{iterations, run_ops, element_ops, body_ops, numbers_below}
use Rattle.cpl_sequence.specs.declared.element.Element.{Element, roll-Element}
use Rattle.cpl_sequence.specs.declared.element.Element.TheOpen.{Element-F, Link, Run, Loop}
use Rattle.cpl_sequence.specs.declared.element.Element.TheFolds.{fold-Element, fold-roll-Element}
use Rattle.cpl_sequence.proofs.TreeFacts.{Every, induction, element_ops-Link, element_ops-Loop, element_ops-Run}

-- the sum of functions at a step
abbrev sum_at : List (ℕ → ℕ) → ℕ → ℕ
sum_at [] step = 0
sum_at (f ∷ fs) step = f step + sum_at fs step

-- How many operations an element has, with those of each inner one in its place.
abbrev size_step : Element-F (ℕ → ℕ) → ℕ → ℕ
size_step (Link link) step = 1
size_step (Run component phase substep) step = run_count substep step
size_step (Loop inner duration body) step = (duration / inner) * sum_at body inner

-- how many operations an element has in a loop of a step
abbrev pub size : Element → ℕ → ℕ
size = fold-Element (ℕ → ℕ) size_step

-- how many those of a body have
abbrev pub size_all : List Element → ℕ → ℕ
size_all [] step = 0
size_all (e ∷ es) step = size e step + size_all es step

-- a sum over a map
sum_at-map : (es : List Element) (step : ℕ) → sum_at (map size es) step ≡ size_all es step
sum_at-map [] step = refl
sum_at-map (e ∷ es) step = ap (λ n. size e step + n) (sum_at-map es step)

-- a link has one
pub size-Link : (link step : ℕ) → size (roll-Element (Link link)) step ≡ 1
size-Link link step = ap (λ f. f step) (fold-roll-Element (ℕ → ℕ) size_step (Link link))

-- a phase has one for each substep
pub size-Run : (component phase : ℕ) (substep : Option ℕ) (step : ℕ) → size (roll-Element (Run component phase substep)) step ≡ run_count substep step
size-Run component phase substep step = ap (λ f. f step) (fold-roll-Element (ℕ → ℕ) size_step (Run component phase substep))

-- a loop has those of its body at each step
pub size-Loop : (inner duration : ℕ) (body : List Element) (step : ℕ) → size (roll-Element (Loop inner duration body)) step ≡ (duration / inner) * size_all body inner
size-Loop inner duration body step =
    ap (λ f. f step) (fold-roll-Element (ℕ → ℕ) size_step (Loop inner duration body))
    ∙ ap (λ n. (duration / inner) * n) (sum_at-map body inner)

-- lists of one length, joined
length-flat_map_same : {A B : Type 0} (f : A → List B) (n : ℕ) → ((x : A) → length (f x) ≡ n) → (xs : List A) → length (flat_map f xs) ≡ length xs * n
length-flat_map_same f n one [] = omega arith
length-flat_map_same f n one (x ∷ xs) = omega (arith, length-append (f x) (flat_map f xs), one x, length-flat_map_same f n one xs)

-- iterations of one length
pub length-iterations : (body : ℕ → List Rattle.cpl_sequence.specs.declared.op.Op.Op) (n : ℕ) → ((time : ℕ) → length (body time) ≡ n) → (step duration time : ℕ) → length (iterations body step duration time) ≡ (duration / step) * n
length-iterations body n one step duration time =
    length-flat_map_same (λ i. body (time + i * step)) n (λ i. one (time + i * step)) (numbers_below (duration / step))
    ∙ ap (λ m. m * n) (length-range_with_len 0 (duration / step))

-- the operations of a phase
pub length-run_ops : (component phase time step : ℕ) (substep : Option ℕ) → length (run_ops component phase time step substep) ≡ run_count substep step
length-run_ops component phase time step None = refl
length-run_ops component phase time step (Some substep) =
    length-map (numbers_below (step / substep)) _ ∙ length-range_with_len 0 (step / substep)

-- an element has as many at each time
abbrev HasSize : Element → Type 0
HasSize e = (time step : ℕ) → length (element_ops e time step) ≡ size e step

-- so has a body, if each of its elements has
every-size : (es : List Element) → Every HasSize es → (time step : ℕ) → length (body_ops es time step) ≡ size_all es step
every-size [] each time step = refl
every-size (e ∷ es) each time step =
    omega (arith, length-append (element_ops e time step) (body_ops es time step), each.0 time step, every-size es each.1 time step)

-- an element has as many at each time
pub length-element_ops : (e : Element) (time step : ℕ) → length (element_ops e time step) ≡ size e step
length-element_ops = induction HasSize
    (λ link time step. rw (element_ops-Link link time step, size-Link link step) refl)
    (λ component phase substep time step. rw (element_ops-Run component phase substep time step, size-Run component phase substep step) (length-run_ops component phase time step substep))
    (λ inner duration body each time step. rw (element_ops-Loop inner duration body time step, size-Loop inner duration body step)
    (length-iterations (λ start. body_ops body start inner) (size_all body inner) (λ start. every-size body each start inner) inner duration time))

-- and so has a body
pub length-body_ops : (es : List Element) (time step : ℕ) → length (body_ops es time step) ≡ size_all es step
length-body_ops [] time step = refl
length-body_ops (e ∷ es) time step =
    omega (arith, length-append (element_ops e time step) (body_ops es time step), length-element_ops e time step, length-body_ops es time step)
