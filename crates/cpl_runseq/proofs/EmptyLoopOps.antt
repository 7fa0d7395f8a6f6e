-- Nested loops in which nothing runs may be dropped: the operations stay the same.
use Rattle.std.proofs.Common.{◌≡◌, ℕ, ◌/◌, List, [], ◌∷◌, ◌++◌, map, Option, Some, None, Result, Ok, Err, refl, sym, ap, ◌∙◌}
use Rattle.std.specs.List.{flat_map}
use Rattle.cpl_sequence.specs.Sequence.{Sequence}
use Rattle.cpl_sequence.specs.Operations.{iterations, element_ops, body_ops, top_ops, operations_of, numbers_below}
use Rattle.cpl_runseq.specs.EmptyLoops.{filled_body, filled_element, filled_loop, filled_step, filled_top, result_map, some_members, without_empty_loops}
use Rattle.cpl_sequence.specs.declared.element.Element.{Element}
use Rattle.cpl_sequence.specs.declared.element.Element.TheFolds.{fold-roll-Element}
use Rattle.cpl_sequence.specs.declared.element.Element.TheOpen.{Link, Run, Loop}
use Rattle.cpl_sequence.specs.declared.element.TopLoop.{TopLoop}
use Rattle.cpl_runseq.specs.declared.fault.SeqFault.{SeqFault}
use Rattle.cpl_sequence.specs.declared.op.Op.{Op}
use Rattle.cpl_sequence.proofs.TreeFacts.{Every, every_all, induction, element_ops-Loop}

-- the operations of an element that may have been dropped
abbrev ops_if_any : Option Element → ℕ → ℕ → List Op
ops_if_any None time step = []
ops_if_any (Some e) time step = element_ops e time step

-- an element has the operations that it has without its empty loops
abbrev StaysSame : Element → Type 0
StaysSame e = (time step : ℕ) → ops_if_any (filled_element e) time step ≡ element_ops e time step

-- no operations
abbrev none : ℕ → List Op
none n = []

-- lists of nothing, joined
flat_map-nothing : (xs : List ℕ) → flat_map none xs ≡ []
flat_map-nothing [] = refl
flat_map-nothing (x ∷ xs) = flat_map-nothing xs

-- a loop has the operations that it has without its empty loops, by its body
filled_loop-same : (inner duration : ℕ) (body : List Element) (time step : ℕ) → ops_if_any (filled_loop inner duration body) time step ≡ iterations (λ start. body_ops body start inner) inner duration time
filled_loop-same inner duration [] time step = sym (flat_map-nothing (numbers_below (duration / inner)))
filled_loop-same inner duration (e ∷ es) time step = element_ops-Loop inner duration (e ∷ es) time step

-- one more that may have been dropped
some_members-cons : (o : Option Element) (os : List (Option Element)) (time step : ℕ) → body_ops (some_members (o ∷ os)) time step ≡ ops_if_any o time step ++ body_ops (some_members os) time step
some_members-cons None os time step = refl
some_members-cons (Some e) os time step = refl

-- a body has the operations that it has without its empty loops, where its elements do
body-same : (body : List Element) → Every StaysSame body → (time step : ℕ) → body_ops (filled_body body) time step ≡ body_ops body time step
body-same [] each time step = refl
body-same (e ∷ es) each time step =
    some_members-cons (filled_element e) (map filled_element es) time step
    ∙ ap (λ (ops : List Op). ops ++ body_ops (filled_body es) time step) (each.0 time step)
    ∙ ap (λ (ops : List Op). element_ops e time step ++ ops) (body-same es each.1 time step)

-- each element has the operations that it has without its empty loops
filled_element-same : (e : Element) → StaysSame e
filled_element-same = induction StaysSame
    (λ link time step. ap (λ o. ops_if_any o time step) (fold-roll-Element (Option Element) filled_step (Link link)))
    (λ component phase substep time step. ap (λ o. ops_if_any o time step) (fold-roll-Element (Option Element) filled_step (Run component phase substep)))
    (λ inner duration body each time step.
    ap (λ o. ops_if_any o time step) (fold-roll-Element (Option Element) filled_step (Loop inner duration body))
    ∙ filled_loop-same inner duration (filled_body body) time step
    ∙ (λ j. iterations (λ start. body-same body each start inner j) inner duration time)
    ∙ sym (element_ops-Loop inner duration body time step))

-- so does each body
pub body_ops-filled : (body : List Element) (time step : ℕ) → body_ops (filled_body body) time step ≡ body_ops body time step
body_ops-filled body = body-same body (every_all StaysSame filled_element-same body)

-- so do all top loops together
operations_of-filled : (tops : List TopLoop) → flat_map top_ops (map filled_top tops) ≡ flat_map top_ops tops
operations_of-filled [] = refl
operations_of-filled (top ∷ tops) =
    (λ j. iterations (λ start. body_ops-filled top.body start top.step j) top.step top.duration top.begin ++ flat_map top_ops (map filled_top tops))
    ∙ ap (λ (ops : List Op). top_ops top ++ ops) (operations_of-filled tops)

-- so a sequence that was read has the operations of the one that was written
pub operations-filled : (read : Result Sequence SeqFault) (sequence : Sequence) → result_map without_empty_loops read ≡ Ok sequence → result_map operations_of read ≡ Ok (operations_of sequence)
operations-filled (Err fault) sequence same = absurd (cc)
operations-filled (Ok w) sequence same =
    let is : without_empty_loops w ≡ sequence = cc in
    ap (λ (ops : List Op). Ok ops) (sym (operations_of-filled w.loops) ∙ ap operations_of is)
