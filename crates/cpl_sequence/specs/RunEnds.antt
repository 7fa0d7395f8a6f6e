-- What the runs of a sequence count as they end: each a number of its component.
use Rattle.std.specs.Prelude.{ℕ, ◌+◌, ◌*◌, ◌/◌, min, if◌then◌else◌, List, [], ◌∷◌, map, slice_index_or}
use Rattle.cpl_sequence.specs.Marks.{greatest_count}
use Rattle.cpl_sequence.specs.declared.element.Element.{Element}
use Rattle.cpl_sequence.specs.declared.element.Element.TheOpen.{Element-F, Link, Run, Loop}
use Rattle.cpl_sequence.specs.declared.element.Element.TheFolds.{fold-Element}
use Rattle.cpl_sequence.specs.declared.element.TopLoop.{TopLoop}
use Rattle.cpl_sequence.specs.declared.op.Op.{Op}
use Rattle.cpl_sequence.specs.declared.op.Op.TheVariants.{Init, Link as LinkOp, Run as RunOp}

-- what an operation counts: the number of its component, where it ends a run
abbrev pub end_count : List ℕ → Op → ℕ
end_count counts (Init component) = 0
end_count counts (LinkOp link at_init) = 0
end_count counts (RunOp component phase time step at substep first last) = if last then slice_index_or counts component 0 else 0

-- what operations count together
abbrev pub end_total : List ℕ → List Op → ℕ
end_total counts [] = 0
end_total counts (op ∷ ops) = end_count counts op + end_total counts ops

-- ---- the code's own: the same by the tree, capped at each step

-- a number and further ones, capped at each step
abbrev pub capped_total : ℕ → List ℕ → ℕ
capped_total before [] = before
capped_total before (n ∷ ns) = capped_total (min (before + n) greatest_count) ns

-- what a loop counts, by what an iteration does
abbrev pub loop_ends : (step duration count : ℕ) → ℕ
loop_ends step duration count = min ((duration / step) * count) greatest_count

-- What an element counts in one iteration, with that of each inner element in its place.
abbrev pub ends_step : List ℕ → Element-F ℕ → ℕ
ends_step counts (Link link) = 0
ends_step counts (Run component phase substep) = slice_index_or counts component 0
ends_step counts (Loop inner duration body) = loop_ends inner duration (capped_total 0 body)

-- what an element counts in one iteration
abbrev pub element_ends : List ℕ → Element → ℕ
element_ends counts = fold-Element ℕ (ends_step counts)

-- what a body counts
abbrev pub body_ends : List ℕ → List Element → ℕ
body_ends counts body = capped_total 0 (map (element_ends counts) body)

-- what a loop counts that stands in no other
abbrev pub top_ends : List ℕ → TopLoop → ℕ
top_ends counts top = loop_ends top.step top.duration (body_ends counts top.body)
