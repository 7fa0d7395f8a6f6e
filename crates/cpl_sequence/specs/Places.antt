-- The code's own: where the k-th operation stands, at each level of the tree.
use Rattle.std.specs.Prelude.{◌≡◌, ◌<◌, ◌≤◌, ℕ, ◌+◌, ◌^◌, List, slice_get, length, IsTrue}
use Rattle.std.specs.List.{flat_map, list_all}
use Rattle.cpl_sequence.specs.Marks.{body_marks, greatest_count, tally_of, tally_of_top}
use Rattle.cpl_sequence.specs.Sound.{is_timed, is_timed_top}
use Rattle.cpl_sequence.specs.Operations.{element_ops, body_ops, top_ops}
use Rattle.cpl_sequence.specs.declared.element.Element.{Element}
use Rattle.cpl_sequence.specs.declared.element.TopLoop.{TopLoop}
use Rattle.cpl_sequence.specs.declared.marks.Mark.{Mark, out-Mark}
use Rattle.cpl_sequence.specs.declared.marks.Tally.{Tally}
use Rattle.cpl_sequence.specs.declared.op.Op.{Op}

-- A mark has what is kept of a member.
pub record IsMarkBy (tally : Tally) (mark : Mark) : Type 0 where
  pub round_is : (out-Mark mark).round ≡ tally.round
  pub body_is : (out-Mark mark).body ≡ tally.body

-- The k-th operation of a loop that stands in no other can be looked for.
pub record IsAtTop (top : TopLoop) (mark : Mark) (k : ℕ) : Type 0 where
  pub timed : IsTrue (is_timed_top top)
  pub early : top.begin + top.duration ≤ 2 ^ 40
  pub below : k < length (top_ops top)
  pub small : k < greatest_count
  pub marked : IsMarkBy (tally_of_top top) mark

-- That of an element in one iteration can.
pub record IsAtElement (element : Element) (mark : Mark) (time step k : ℕ) : Type 0 where
  pub timed : IsTrue (is_timed element step)
  pub some : 0 < step
  pub early : time + step ≤ 2 ^ 40
  pub below : k < length (element_ops element time step)
  pub small : k < greatest_count
  pub marked : IsMarkBy (tally_of element step) mark

-- That of a body in one iteration can.
pub record IsAtBody (body : List Element) (marks : List Mark) (time step k : ℕ) : Type 0 where
  pub timed : IsTrue (list_all (λ element. is_timed element step) body)
  pub some : 0 < step
  pub early : time + step ≤ 2 ^ 40
  pub below : k < length (body_ops body time step)
  pub small : k < greatest_count
  pub marked : marks ≡ (body_marks body step).marks

-- The k-th operation of all members is a certain one of this member.
pub record IsPlaced {A : Type 0} (operations : A → List Op) (members : List A) (k within : ℕ) (member : A) : Type 0 where
  pub below : within < length (operations member)
  pub same : slice_get (flat_map operations members) k ≡ slice_get (operations member) within
