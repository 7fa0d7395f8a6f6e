-- What every operation of a run sequence keeps to, by itself and over the names that the sequence was read over.
use Rattle.std.specs.Prelude.{◌≡◌, ◌≢◌, ⊤, ℕ, ℤ, pos, ◌+ℤ◌, ◌≤ℤ◌, ◌<◌, ◌^◌, false, List, Option, Some, length, slice_get, unwrap_or}
use Rattle.std.specs.List.{All}
use Rattle.cpl_sequence.specs.Sequence.{Sequence}
use Rattle.cpl_sequence.specs.Operations.{operations_of}
use Rattle.cpl_sequence.specs.declared.link_line.LinkLine.{LinkLine}
use Rattle.cpl_sequence.specs.declared.op.Op.{Op}
use Rattle.cpl_sequence.specs.declared.op.Op.TheVariants.{Init, Link, Run}
use Rattle.cpl_sequence.specs.declared.seq_name.SeqName.{SeqName}

-- ---- what a sequence keeps to by itself

-- A connector that runs is one of so many, and not for an initialisation.
pub record IsLinkWithin (count link : ℕ) (at_init : Rattle.std.specs.Prelude.Bool) : Type 0 where
  pub below : link < count
  pub later : at_init ≡ false

-- A run lies in its step, and the step in the span.
pub record IsRunWithin (span time step at substep : ℤ) : Type 0 where
  pub forward : pos 0 ≤ℤ time
  pub step_some : pos 1 ≤ℤ step
  pub step_ends : (time +ℤ step) ≤ℤ span
  pub from_time : time ≤ℤ at
  pub substep_some : pos 1 ≤ℤ substep
  pub substep_ends : (at +ℤ substep) ≤ℤ (time +ℤ step)

-- an operation of a sequence
abbrev pub IsOpWithin : Sequence → Op → Type 0
IsOpWithin seq (Init component) = ⊥
IsOpWithin seq (Link link at_init) = IsLinkWithin (length seq.links) link at_init
IsOpWithin seq (Run component phase time step at substep first last) = IsRunWithin seq.span time step at substep

-- ---- over names

-- A run is one of a component's phases, by that component's substep, or by the step where it has none.
pub record IsRunOver (names : List SeqName) (component phase : ℕ) (step substep : ℤ) : Type 0 where
  pub name : SeqName
  pub named : slice_get names component ≡ Some name
  pub phase_below : phase < length name.phases
  pub substep_is : substep ≡ unwrap_or name.substep step

-- an operation of a sequence over these names
abbrev pub IsOpOver : List SeqName → Op → Type 0
IsOpOver names (Init component) = ⊥
IsOpOver names (Link link at_init) = ⊤
IsOpOver names (Run component phase time step at substep first last) = IsRunOver names component phase step substep

-- A connector carries from one component to another.
pub record IsLinkOver (names : List SeqName) (link : LinkLine) : Type 0 where
  pub src_below : link.src < length names
  pub dst_below : link.dst < length names
  pub differ : link.src ≢ link.dst

-- Each connector is of a pair of its own.
pub record AreOfPairs (links : List LinkLine) : Type 0 where
  pub unique : (i j : ℕ) (a b : LinkLine) → slice_get links i ≡ Some a → slice_get links j ≡ Some b → a.src ≡ b.src → a.dst ≡ b.dst → i ≡ j

-- A sequence over these names.
pub record IsOver (names : List SeqName) (seq : Sequence) : Type 0 where
  pub operations : All (IsOpOver names) (operations_of seq)
  pub within : All (IsOpWithin seq) (operations_of seq)
  pub ends : All (IsLinkOver names) seq.links
  pub pairs : AreOfPairs seq.links
  pub few : length seq.links < 2 ^ 16
