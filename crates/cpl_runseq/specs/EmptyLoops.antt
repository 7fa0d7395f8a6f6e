-- A run sequence without its empty loops: in them nothing runs, their time passes.
use Rattle.std.specs.Prelude.{ℕ, ℤ, List, [], ◌∷◌, map, Option, Some, None, Result, Ok, Err}
use Rattle.cpl_sequence.specs.Sequence.{Sequence}
use Rattle.cpl_sequence.specs.declared.element.Element.{Element, roll-Element}
use Rattle.cpl_sequence.specs.declared.element.Element.TheFolds.{fold-Element}
use Rattle.cpl_sequence.specs.declared.element.Element.TheOpen.{Element-F, Link, Run, Loop}
use Rattle.cpl_sequence.specs.declared.element.TopLoop.{TopLoop}
use Rattle.cpl_sequence.specs.declared.seq_name.SeqName.{SeqName}
use Rattle.cpl_config.specs.declared.row.Row.{Row}
use Rattle.cpl_runseq.specs.Whole.{sequence_of}
use Rattle.cpl_runseq.specs.declared.fault.SeqFault.{SeqFault}

-- the members of a list that are there
abbrev pub some_members : {A : Type 0} → List (Option A) → List A
some_members [] = []
some_members (None ∷ more) = some_members more
some_members (Some x ∷ more) = x ∷ some_members more

-- a loop, unless nothing stands in it
abbrev pub filled_loop : ℕ → ℕ → List Element → Option Element
filled_loop step duration [] = None
filled_loop step duration (e ∷ es) = Some (roll-Element (Loop step duration (e ∷ es)))

-- An element at one level, with each inner element in its place without its empty loops.
abbrev pub filled_step : Element-F (Option Element) → Option Element
filled_step (Link link) = Some (roll-Element (Link link))
filled_step (Run component phase substep) = Some (roll-Element (Run component phase substep))
filled_step (Loop step duration body) = filled_loop step duration (some_members body)

-- an element without its empty loops, unless it is one
abbrev pub filled_element : Element → Option Element
filled_element = fold-Element (Option Element) filled_step

-- a body without its empty loops
abbrev pub filled_body : List Element → List Element
filled_body body = some_members (map filled_element body)

-- a top loop without those in it; it stays if it is empty itself
abbrev pub filled_top : TopLoop → TopLoop
filled_top top = record { begin = top.begin; step = top.step; duration = top.duration; body = filled_body top.body }

-- a sequence without its empty nested loops
abbrev pub without_empty_loops : Sequence → Sequence
without_empty_loops seq = record { links = seq.links; loops = map filled_top seq.loops; span = seq.span }

-- a value, changed by a function, or the fault as it is
abbrev pub result_map : {A B : Type 0} → (A → B) → Result A SeqFault → Result B SeqFault
result_map f (Ok x) = Ok (f x)
result_map f (Err fault) = Err fault

-- the sequence that rows are, without its empty nested loops, or the first fault
abbrev pub filled_sequence : List SeqName → (span time_step : Option ℤ) → (room : ℤ) → List Row → Result Sequence SeqFault
filled_sequence names span time_step room rows = result_map without_empty_loops (sequence_of names span time_step room rows)
