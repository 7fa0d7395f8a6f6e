-- The code's own: what holds of what was read so far.
use Rattle.std.specs.Prelude.{◌≡◌, ℕ, ◌-◌, ◌≤◌, ◌<◌, true, nat_le, List, [], ◌∷◌, length, slice_get, sum_by, Option, Some}
use Rattle.std.specs.List.{All, flat_map, list_all}
use Rattle.std.specs.Option.{unwrap_or}
use Rattle.cpl_sequence.specs.Bounds.{AreOfPairs, IsLinkOver}
use Rattle.cpl_sequence.specs.declared.element.Element.{Element}
use Rattle.cpl_sequence.specs.declared.element.Element.TheFolds.{fold-Element}
use Rattle.cpl_sequence.specs.declared.element.Element.TheOpen.{Element-F, Link, Run, Loop}
use Rattle.cpl_sequence.specs.declared.seq_name.SeqName.{SeqName}
use Rattle.cpl_runseq.specs.Names.{substep_of}
use Rattle.cpl_runseq.specs.declared.read_loop.ReadLoop.{ReadLoop}
use Rattle.cpl_sequence.specs.Sound.{is_linked, is_nested, is_timed}
use Rattle.cpl_runseq.specs.Reading.{Reading, divides, divides_given, loop_duration}

-- A body fits in a loop of that step: its loops nest no deeper than so many, and its connectors are among
-- the first so many, and so they are when there are more.
pub record IsBody (count depth step : ℕ) (body : List Element) : Type 0 where
  pub timed : list_all (λ e. is_timed e step) body ≡ true
  pub nested : list_all (λ e. is_nested e depth) body ≡ true
  pub linked : (more : ℕ) → count ≤ more → list_all (is_linked more) body ≡ true

-- A top loop fits: its step divides its duration, if it has one, and its body fits.
pub record IsTopLoop (count : ℕ) (l : ReadLoop) : Type 0 where
  pub even : divides_given l.step l.given ≡ true
  pub fits : IsBody count 7 l.step l.body

-- A nested loop fits: it is no longer than the step around it, its step divides its duration, and its body fits.
pub record IsInnerLoop (count depth : ℕ) (l around : ReadLoop) : Type 0 where
  pub short : nat_le (loop_duration l.given around) around.step ≡ true
  pub even : divides l.step (loop_duration l.given around) ≡ true
  pub fits : IsBody count depth l.step l.body

-- loops that are open, the innermost first, fit in one another
abbrev pub AreOpen : ℕ → List ReadLoop → Type 0
AreOpen count [] = Unit {0}
AreOpen count (l ∷ []) = IsTopLoop count l
AreOpen count (l ∷ around ∷ more) = IsInnerLoop count (6 - length more) l around × AreOpen count (around ∷ more)

-- What was read so far fits: at most eight loops are open, and all loops fit.
pub record IsReading (r : Reading) : Type 0 where
  pub few : length r.open_loops ≤ 8
  pub open_fit : AreOpen (length r.links) r.open_loops
  pub loops_fit : All (IsTopLoop (length r.links)) r.loops

-- how long all loops last, where one without a duration takes the rest
abbrev pub full_length : ℕ → List ReadLoop → ℕ
full_length rest loops = sum_by (λ l. unwrap_or l.given rest) loops

-- ---- over names

-- A run as it stands in the tree.
pub record Leaf : Type 0 where
  pub component : ℕ
  pub phase : ℕ
  pub substep : Option ℕ

-- The runs at one level, with those of each inner element in its place.
abbrev pub leaves_step : Element-F (List Leaf) → List Leaf
leaves_step (Link link) = []
leaves_step (Run component phase substep) = record { component = component; phase = phase; substep = substep } ∷ []
leaves_step (Loop step duration body) = flat_map (λ leaves. leaves) body

-- the runs that stand in an element
abbrev pub leaves : Element → List Leaf
leaves = fold-Element (List Leaf) leaves_step

-- The run is one of a component's phases, by that component's substep.
pub record IsLeafOver (names : List SeqName) (leaf : Leaf) : Type 0 where
  pub name : SeqName
  pub named : slice_get names leaf.component ≡ Some name
  pub phase_below : leaf.phase < length name.phases
  pub substep_is : leaf.substep ≡ substep_of name

-- the runs that stand in a body are over names
abbrev pub IsBodyOver : List SeqName → List Element → Type 0
IsBodyOver names body = All (IsLeafOver names) (flat_map leaves body)

-- What was read so far is over names.
pub record IsReadingOver (names : List SeqName) (r : Reading) : Type 0 where
  pub open_over : All (λ l. IsBodyOver names l.body) r.open_loops
  pub loops_over : All (λ l. IsBodyOver names l.body) r.loops
  pub links_over : All (IsLinkOver names) r.links
  pub pairs : AreOfPairs r.links
