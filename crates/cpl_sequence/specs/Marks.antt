-- The code's own: what is kept of a tree so that an operation is found by its number.
use Rattle.std.specs.Prelude.{ℕ, ◌+◌, ◌-◌, ◌*◌, ◌/◌, ◌^◌, ◌≡◌, ◌<◌, ◌≤◌, min, List, [], ◌∷◌, Option, Some, None, map, length, slice_index_or}
use Rattle.std.specs.List.Sorted.{IsNonDecreasingBy}
use Rattle.cpl_sequence.specs.declared.element.Element.{Element}
use Rattle.cpl_sequence.specs.declared.element.Element.TheOpen.{Element-F, Link, Run, Loop}
use Rattle.cpl_sequence.specs.declared.element.Element.TheFolds.{fold-Element}
use Rattle.cpl_sequence.specs.declared.element.TopLoop.{TopLoop}
use Rattle.cpl_sequence.specs.declared.marks.Mark.{Mark, out-Mark, roll-Mark}
use Rattle.cpl_sequence.specs.declared.marks.Marks.{Marks}
use Rattle.cpl_sequence.specs.declared.marks.Tally.{Tally}

-- the greatest number that is counted
abbrev pub greatest_count : ℕ
greatest_count = 2 ^ 64 - 1

-- how many operations a phase has in one iteration
abbrev pub run_count : Option ℕ → ℕ → ℕ
run_count None step = 1
run_count (Some substep) step = step / substep

-- a mark of these parts
abbrev pub mark_of : (before round : ℕ) → List Mark → Mark
mark_of before round body = roll-Mark (record { before = before; round = round; body = body })

-- the marks of members with these tallies, behind so many operations
abbrev pub marks_behind : ℕ → List Tally → List Mark
marks_behind before [] = []
marks_behind before (tally ∷ tallies) = mark_of before tally.round tally.body ∷ marks_behind (min (before + tally.count) greatest_count) tallies

-- how many operations there are with theirs
abbrev pub count_behind : ℕ → List Tally → ℕ
count_behind before [] = before
count_behind before (tally ∷ tallies) = count_behind (min (before + tally.count) greatest_count) tallies

-- what is kept of members with these tallies
abbrev pub marks_by : List Tally → Marks
marks_by tallies = record { count = count_behind 0 tallies; marks = marks_behind 0 tallies }

-- the tally of a loop, by what is kept of its body
abbrev pub loop_tally : (step duration : ℕ) → Marks → Tally
loop_tally step duration kept = record { count = min ((duration / step) * kept.count) greatest_count; round = kept.count; body = kept.marks }

-- What is kept of an element in a loop of a step, with those of each inner element in its place.
abbrev pub tally_step : Element-F (ℕ → Tally) → ℕ → Tally
tally_step (Link link) step = record { count = 1; round = 0; body = [] }
tally_step (Run component phase substep) step = record { count = min (run_count substep step) greatest_count; round = 0; body = [] }
tally_step (Loop inner duration body) step = loop_tally inner duration (marks_by (map (λ tally. tally inner) body))

-- what is kept of an element in a loop of a step
abbrev pub tally_of : Element → ℕ → Tally
tally_of = fold-Element (ℕ → Tally) tally_step

-- what is kept of a body
abbrev pub body_marks : List Element → ℕ → Marks
body_marks body step = marks_by (map (λ element. tally_of element step) body)

-- what is kept of a loop that stands in no other
abbrev pub tally_of_top : TopLoop → Tally
tally_of_top top = loop_tally top.step top.duration (body_marks top.body top.step)

-- what is kept of a sequence's loops
abbrev pub marks_of_tops : List TopLoop → Marks
marks_of_tops tops = marks_by (map tally_of_top tops)

-- Marks rise from 0.
pub record AreRising (marks : List Mark) : Type 0 where
  pub some : 0 < length marks
  pub first : (d : Mark) → (out-Mark (slice_index_or marks 0 d)).before ≡ 0
  pub rising : IsNonDecreasingBy (λ mark. (out-Mark mark).before) marks

-- A place is the last before which at most so many operations stand.
pub record IsLastUpTo (marks : List Mark) (k place : ℕ) : Type 0 where
  pub inside : place < length marks
  pub here : (d : Mark) → (out-Mark (slice_index_or marks place d)).before ≤ k
  pub next : (d : Mark) → place + 1 < length marks → k < (out-Mark (slice_index_or marks (place + 1) d)).before
