-- The operations that a run sequence stands for.
use Rattle.std.specs.Prelude.{ℕ, ◌+◌, ◌*◌, ◌/◌, ◌==◌, pos, true, false, List, [], ◌∷◌, Option, Some, None, map}
use Rattle.std.specs.List.{flat_map, range_with_len}
use Rattle.cpl_sequence.specs.Sequence.{Sequence}
use Rattle.cpl_sequence.specs.declared.element.Element.{Element}
use Rattle.cpl_sequence.specs.declared.element.Element.TheOpen.{Element-F, Link, Run, Loop}
use Rattle.cpl_sequence.specs.declared.element.Element.TheFolds.{fold-Element}
use Rattle.cpl_sequence.specs.declared.element.TopLoop.{TopLoop}
use Rattle.cpl_sequence.specs.declared.op.Op.{Op}
use Rattle.cpl_sequence.specs.declared.op.Op.TheVariants.{Link as LinkOp, Run as RunOp}

-- the numbers below this one, in order
abbrev pub numbers_below : ℕ → List ℕ
numbers_below n = range_with_len 0 n

-- The operations of a phase in one iteration: one, or one for each substep.
abbrev pub run_ops : (component phase time step : ℕ) → Option ℕ → List Op
run_ops component phase time step None = RunOp component phase (pos time) (pos step) (pos time) (pos step) true true ∷ []
run_ops component phase time step (Some substep) =
    map (λ i. RunOp component phase (pos time) (pos step) (pos (time + i * substep)) (pos substep) (i == 0) (i + 1 == step / substep)) (numbers_below (step / substep))

-- the operations of a loop from a time on, whose body gives these at the beginning of each iteration
abbrev pub iterations : (ℕ → List Op) → (step duration time : ℕ) → List Op
iterations body step duration time = flat_map (λ n. body (time + n * step)) (numbers_below (duration / step))

-- The operations of an element from a time on in a loop of a step, with those of each inner element in its place.
abbrev pub element_ops_step : Element-F (ℕ → ℕ → List Op) → ℕ → ℕ → List Op
element_ops_step (Link link) time step = LinkOp link false ∷ []
element_ops_step (Run component phase substep) time step = run_ops component phase time step substep
element_ops_step (Loop inner duration body) time step = iterations (λ start. flat_map (λ ops. ops start inner) body) inner duration time

-- the operations of an element, from a time on in a loop of a step
abbrev pub element_ops : Element → ℕ → ℕ → List Op
element_ops = fold-Element (ℕ → ℕ → List Op) element_ops_step

-- those of the elements of a body, in their order
abbrev pub body_ops : List Element → ℕ → ℕ → List Op
body_ops body time step = flat_map (λ element. element_ops element time step) body

-- those of a loop that stands in no other
abbrev pub top_ops : TopLoop → List Op
top_ops top = iterations (λ start. body_ops top.body start top.step) top.step top.duration top.begin

-- all operations, in their order
abbrev pub operations_of : Sequence → List Op
operations_of seq = flat_map top_ops seq.loops
