-- What holds of every run sequence.
use Rattle.std.specs.Prelude.{◌≤◌, ◌^◌, ℕ, zero, suc, ◌+◌, ◌%◌, ◌==◌, pos, ◌≤ℤ◌, Bool, true, false, ◌&&◌, nat_le, nat_lt, List, [], ◌∷◌, Option, Some, None, length, unsigned_abs, IsTrue}
use Rattle.std.specs.List.{list_all}
use Rattle.cpl_sequence.specs.Sequence.{Sequence}
use Rattle.cpl_sequence.specs.declared.element.Element.{Element}
use Rattle.cpl_sequence.specs.declared.element.Element.TheOpen.{Element-F, Link, Run, Loop}
use Rattle.cpl_sequence.specs.declared.element.Element.TheFolds.{fold-Element}
use Rattle.cpl_sequence.specs.declared.element.TopLoop.{TopLoop}

-- whether a number is from 1 and divides another
abbrev pub is_part : ℕ → ℕ → Bool
is_part part whole = nat_lt 0 part && (whole % part == 0)

-- whether a substep, where there is one, divides the step
abbrev pub is_substep : Option ℕ → ℕ → Bool
is_substep None step = true
is_substep (Some substep) step = is_part substep step

-- whether a loop's step divides its duration, which is from 1, and the members of its body all pass
abbrev pub is_loop : {A : Type 0} → (A → Bool) → (step duration : ℕ) → List A → Bool
is_loop passes step duration body = is_part step duration && nat_lt 0 duration && list_all passes body

-- Whether the times of an element fit in a loop of a step, with those of each inner element in its place. A loop
-- in a loop isn't empty.
abbrev pub timed_step : Element-F (ℕ → Bool) → ℕ → Bool
timed_step (Link link) step = true
timed_step (Run component phase substep) step = is_substep substep step
timed_step (Loop inner duration body) step = nat_le duration step && nat_lt 0 (length body) && is_loop (λ timed. timed inner) inner duration body

-- whether the times of an element fit in a loop of a step
abbrev pub is_timed : Element → ℕ → Bool
is_timed = fold-Element (ℕ → Bool) timed_step

-- Whether loops nest no deeper than so many, with that of each inner element in its place.
abbrev pub nested_step : Element-F (ℕ → Bool) → ℕ → Bool
nested_step (Link link) depth = true
nested_step (Run component phase substep) depth = true
nested_step (Loop inner duration body) zero = false
nested_step (Loop inner duration body) (suc depth) = list_all (λ nested. nested depth) body

-- whether the loops of an element nest no deeper than so many
abbrev pub is_nested : Element → ℕ → Bool
is_nested = fold-Element (ℕ → Bool) nested_step

-- Whether connectors are among the first so many, with that of each inner element in its place.
abbrev pub linked_step : ℕ → Element-F Bool → Bool
linked_step count (Link link) = nat_lt link count
linked_step count (Run component phase substep) = true
linked_step count (Loop inner duration body) = list_all (λ linked. linked) body

-- whether the connectors of an element are among the first so many
abbrev pub is_linked : ℕ → Element → Bool
is_linked count = fold-Element Bool (linked_step count)

-- whether the times of a loop that stands in no other fit; it may be empty
abbrev pub is_timed_top : TopLoop → Bool
is_timed_top top = is_loop (λ element. is_timed element top.step) top.step top.duration top.body

-- whether loops stand end to end in time, from one time to another
abbrev pub are_end_to_end : ℕ → List TopLoop → ℕ → Bool
are_end_to_end from [] to = from == to
are_end_to_end from (top ∷ tops) to = top.begin == from && are_end_to_end (top.begin + top.duration) tops to

-- A sequence whose top loops stand end to end from 0 to the span, and whose loops nest at most 8 deep; of these
-- only top loops may be empty.
pub record IsSound (seq : Sequence) : Type 0 where
  pub timed : IsTrue (list_all is_timed_top seq.loops)
  pub nested : IsTrue (list_all (λ top. list_all (λ element. is_nested element 7) top.body) seq.loops)
  pub linked : IsTrue (list_all (λ top. list_all (is_linked (length seq.links)) top.body) seq.loops)
  pub end_to_end : IsTrue (are_end_to_end 0 seq.loops (unsigned_abs seq.span))
  pub forward : pos 0 ≤ℤ seq.span
  pub short : unsigned_abs seq.span ≤ 2 ^ 40
