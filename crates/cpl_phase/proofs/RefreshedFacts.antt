-- One ring more is filled.
use Rattle.std.proofs.Common.{◌≡◌, ℕ, ◌+◌, ◌<◌, List, [], ◌++◌, ℤ, drop, length, set, sym, ap, subst, take, ◌∙◌, inl, inr, arith}
use Rattle.std.proofs.lemmas.Bool.{cases_eq}
use Rattle.std.proofs.lemmas.List.{get_or-set_other, get_or-set_same, length-set}
use Rattle.std.proofs.lemmas.List.Elements.{All-set}
use Rattle.std.proofs.Math.Seq.{take-append_seam}
use Rattle.std.specs.List.{All}
use Rattle.std.specs.Prelude.{slice_index}
use Rattle.cpl_base.specs.Numbers.{IsValue}
use Rattle.cpl_block.specs.Frames.{IsOwn, IsRinged, places_in}
use Rattle.cpl_block.specs.Rings.{IsArrived, IsRefilled}
use Rattle.cpl_block.specs.declared.frame.Frame.{Frame}
use Rattle.cpl_sweep.specs.Places.{field_at}
use Rattle.cpl_phase.specs.Refreshed.{AreOnBlock, AreRefilledTo}

-- ---- one field changed

-- what is left in a lent slice of the same length
pub left-same : (old left : List ℤ) → length left ≡ length old → take (length old) (left ++ drop (length left) old) ≡ left
left-same old left same =
    ap (λ n. take n (left ++ drop (length left) old)) (sym same) ∙ take-append_seam left (drop (length left) old)

-- the fields with one of them changed
pub on-block-set : (frame : Frame) (number : ℕ) (fields : List (List ℤ)) (k : ℕ) (new : List ℤ) → AreOnBlock frame number fields
    → length new ≡ places_in frame → All IsValue new → AreOnBlock frame number (set fields k new)
on-block-set frame number fields k new on long values = record {
  count = length-set fields k new ∙ on.count;
  places = All-set (λ field. length field ≡ places_in frame) fields k new long on.places;
  values = All-set (All IsValue) fields k new values on.values;
}

-- what holds of the field that was, holds of the one in its place
set-keeps : (P : List ℤ → Type 0) (fields : List (List ℤ)) (k j : ℕ) (new : List ℤ) → k < length fields → (P (field_at fields k) → P new)
    → P (field_at fields j) → P (field_at (set fields k new) j)
set-keeps P fields k j new there keeps holds = elim (cases_eq j k) [
  | inl same ↦
      let Q : ℕ → Type 0 = λ n. P (field_at fields n) in
      let R : ℕ → Type 0 = λ n. P (field_at (set fields k new) n) in
      subst R (sym same) (subst P (sym (get_or-set_same fields k new [] there)) (keeps (subst Q same holds)))
  | inr other ↦ subst P (sym (get_or-set_other fields k j new [] other)) holds
]

-- ---- rings

pub refilled-more : (frame : Frame) (halo : List ℕ) (j k : ℕ) (old now : List (List ℤ)) (new : List ℤ) → k < length now → slice_index halo j ≡ k
    → AreRefilledTo j frame halo old now → IsRefilled frame (field_at now k) new → AreRefilledTo (j + 1) frame halo old (set now k new)
refilled-more frame halo j k old now new there is before refilled = record {
  own = λ i value own. set-keeps (IsOwn frame value) now k i new there (refilled.own value) (before.own i value own);
  arrived = λ i value arrived. set-keeps (IsArrived frame value) now k i new there (refilled.arrived value) (before.arrived i value arrived);
  ringed = λ i value below own arrived.
      let R : ℕ → Type 0 = λ n. IsRinged frame value (field_at (set now k new) n) in
      let O : ℕ → Type 0 = λ n. IsOwn frame value (field_at old n) in
      let A : ℕ → Type 0 = λ n. IsArrived frame value (field_at old n) in
      let P : List ℤ → Type 0 = IsRinged frame value in
      elim (cases_eq (slice_index halo i) k) [
        | inl same ↦
            subst R (sym same) (subst P (sym (get_or-set_same now k new [] there))
            (refilled.ringed value (before.own k value (subst O same own)) (before.arrived k value (subst A same arrived))))
        | inr other ↦ elim (cases_eq i j) [
          | inl at ↦ absurd (other (ap (slice_index halo) at ∙ is))
          | inr before_it ↦ subst P (sym (get_or-set_other now k (slice_index halo i) new [] other)) (before.ringed i value (omega arith) own arrived)
        ]
      ];
}
