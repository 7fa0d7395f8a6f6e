-- The world with values and a stamp taken for one field.
use Rattle.std.proofs.Common.{◌≡◌, ◌≢◌, ℕ, zero, suc, ◌<◌, List, [], ◌∷◌, length, map, set, ℤ, Option, refl, sym, ap, subst, ◌∙◌, inl, inr}
use Rattle.std.proofs.lemmas.Bool.Decides.{eqb_tells}
use Rattle.std.proofs.lemmas.List.{get_or-set_other, get_or-set_same}
use Rattle.cpl_block.specs.Frames.{values_in}
use Rattle.cpl_block.specs.declared.frame.Frame.{Frame}
use Rattle.cpl_comp.proofs.ChangeFacts.{changed-here, changed-other, length-changed, map-changed}
use Rattle.cpl_comp.specs.Marks.{CompMarks, marks_of}
use Rattle.cpl_comp.specs.Worlds.{CompWorld, FieldWorld, cell_value, changed, field_at as world_at, no_field}
use Rattle.cpl_grid.specs.Parts.{cells_of_part}
use Rattle.cpl_marks.specs.Held.{marks_in}
use Rattle.cpl_marks.specs.declared.marks.Marks.{Marks}
use Rattle.cpl_mediator.specs.Averages.{RunningSums}
use Rattle.cpl_sweep.specs.Places.{field_at}
use Rattle.cpl_phase.specs.Imported.{AreTakenIn}
use Rattle.cpl_phase.specs.Keeping.{StandsForBlock}
use Rattle.cpl_phase.specs.Kept.{StandForKept, accum_at}
use Rattle.cpl_phase.specs.Worlds.{HoldFields, block_values}

-- a list with a member replaced
changed-set : {A : Type 0} (x : A) (k : ℕ) (xs : List A) → changed (λ old. x) k xs ≡ set xs k x
changed-set x k [] = refl
changed-set x zero (y ∷ ys) = refl
changed-set x (suc k) (y ∷ ys) = ap (λ (zs : List _). y ∷ zs) (changed-set x k ys)

module _ (whole : List ℤ) (stamp : Option ℤ) (place : ℕ) (world : List FieldWorld) where
  -- the fields with values and stamp
  abbrev pub taken_fields : List FieldWorld
  taken_fields = changed (λ taken. record taken { values = whole; stamp = stamp }) place world

  -- their stamps
  pub taken-stamps : (stamps : List (Option ℤ)) → map (λ (field : FieldWorld). field.stamp) world ≡ stamps
      → map (λ (field : FieldWorld). field.stamp) taken_fields ≡ set stamps place stamp
  taken-stamps stamps are =
      map-changed (λ (field : FieldWorld). field.stamp) (λ taken. record taken { values = whole; stamp = stamp }) (λ old. stamp)
      (λ field. refl) place world
      ∙ ap (changed (λ old. stamp) place) are ∙ changed-set stamp place stamps

  -- the values of the place, and of others
  taken-here : place < length world → (world_at taken_fields place).values ≡ whole
  taken-here below = ap (λ (field : FieldWorld). field.values)
      (changed-here (λ taken. record taken { values = whole; stamp = stamp }) place world no_field below)

  taken-other : (k : ℕ) → k ≢ place → world_at taken_fields k ≡ world_at world k
  taken-other k other = changed-other (λ taken. record taken { values = whole; stamp = stamp }) place k world no_field other

  -- what is kept
  kept-same : (k : ℕ) → k < length world → (world_at taken_fields k).kept ≡ (world_at world k).kept
  kept-same k below = elim (eqb_tells k place) [
    | inl at ↦ subst (λ n. (world_at taken_fields n).kept ≡ (world_at world n).kept) (sym at.1)
        (ap (λ (field : FieldWorld). field.kept)
        (changed-here (λ taken. record taken { values = whole; stamp = stamp }) place world no_field (subst (λ n. n < length world) at.1 below)))
    | inr off ↦ ap (λ (field : FieldWorld). field.kept) (taken-other k off.1)
  ]

  module _ (frame : Frame) (count : ℕ) (values : List ℤ) (are : values ≡ map (cell_value whole) (cells_of_part frame.grid frame.part))
      (below : place < count) where
    pub taken-held : (old new : List (List ℤ)) → AreTakenIn frame values place old new → HoldFields frame count world old
        → HoldFields frame count taken_fields new
    taken-held old new taken hold = record {
      number = length-changed _ place world ∙ hold.number;
      values = λ k there. elim (eqb_tells k place) [
        | inl at ↦ subst (λ n. values_in frame (field_at new n) ≡ block_values frame (world_at taken_fields n)) (sym at.1)
            (taken.taken (cell_value whole) are ∙ ap (λ (list : List ℤ). map (cell_value list) (cells_of_part frame.grid frame.part))
            (sym (taken-here (subst (λ n. place < n) (sym hold.number) below))))
        | inr off ↦ ap (values_in frame) (taken.others k off.1) ∙ hold.values k there ∙ ap (block_values frame) (sym (taken-other k off.1))
      ];
    }

    pub taken-kept : (accums : List RunningSums) → StandForKept frame count world accums → StandForKept frame count taken_fields accums
    taken-kept accums stand = record {
      number = length-changed _ place world ∙ stand.number;
      each = λ k there. subst (StandsForBlock frame (accum_at accums k)) (sym (kept-same k (subst (λ n. k < n) (sym stand.number) there)))
          (stand.each k there);
    }

    pub taken-shown : (shown : List (List ℤ)) → length world ≡ count → length shown ≡ count
        → ((k : ℕ) → k < count → field_at shown k ≡ block_values frame (world_at world k))
        → (k : ℕ) → k < count → field_at (set shown place values) k ≡ block_values frame (world_at taken_fields k)
    taken-shown shown number long each k there = elim (eqb_tells k place) [
      | inl at ↦ subst (λ n. field_at (set shown place values) n ≡ block_values frame (world_at taken_fields n)) (sym at.1)
          (get_or-set_same shown place values [] (subst (λ n. place < n) (sym long) below) ∙ are
          ∙ ap (λ (list : List ℤ). map (cell_value list) (cells_of_part frame.grid frame.part))
          (sym (taken-here (subst (λ n. place < n) (sym number) below))))
      | inr off ↦ get_or-set_other shown place k values [] off.1 ∙ each k there ∙ ap (block_values frame) (sym (taken-other k off.1))
    ]

-- what of it doesn't depend on values
pub taken-marks : (whole : List ℤ) (stamp : Option ℤ) (place : ℕ) (world : CompWorld) (marks : Marks) → marks_of world ≡ marks_in marks
    → marks_of (record world { fields = taken_fields whole stamp place world.fields }) ≡ record (marks_in marks)
    { stamps = set marks.stamps place stamp }
taken-marks whole stamp place world marks are = λ i. record {
  clock = (are i).clock;
  runs = (are i).runs;
  stamps = taken-stamps whole stamp place world.fields marks.stamps (ap (λ (these : CompMarks). these.stamps) are) i;
}
