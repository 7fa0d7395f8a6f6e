-- What is kept of each PET for a halo.
use Rattle.std.proofs.Common.{◌≡◌, ℕ, ◌+◌, ◌<◌, ℤ, List, length, set, filter, sym, subst, ◌∙◌, inl, inr, arith, length-set}
use Rattle.std.proofs.lemmas.Bool.{cases_lt}
use Rattle.std.proofs.lemmas.List.{get_or-set_other, get_or-set_same}
use Rattle.cpl_grid.specs.Owners.{IsPartOf, Layout}
use Rattle.cpl_grid.specs.Parts.{cells_of_part}
use Rattle.cpl_grid.specs.declared.blocks.Part.{Part}
use Rattle.cpl_route.proofs.OwnedFacts.{shared-part}
use Rattle.cpl_route.specs.Halos.{HasPairsTo, IsPairOf}
use Rattle.cpl_route.specs.Routes.{is_halo, shared_cells}
use Rattle.cpl_route.specs.declared.halo_pair.HaloPair.{HaloPair}

-- nothing is kept yet
pub pairs-none : (layout : Layout) (offsets : List (ℤ × ℤ)) (list : List HaloPair) → length list ≡ 64 → HasPairsTo layout offsets list 0
pairs-none layout offsets list room = record { room = room; each = λ k other inside. absurd (omega arith) }

-- one PET more
pub pairs-more : (layout : Layout) (offsets : List (ℤ × ℤ)) (list : List HaloPair) (count : ℕ) (pair : HaloPair) → HasPairsTo layout offsets list count → count < 64 → IsPairOf layout offsets (layout.first_pet + count) pair → HasPairsTo layout offsets (set list count pair) (count + 1)
pairs-more layout offsets list count pair kept inside is = record {
  room = simp length-set kept.room;
  each = λ k other below. elim (cases_lt k count) [
    | inl before ↦
        rw (get_or-set_other list count k pair other (λ same. omega arith)) (kept.each k other before)
    | inr from ↦
        let here : k ≡ count = omega arith in
        let room = kept.room in
        rw (here, get_or-set_same list count pair other (omega arith)) is
  ];
}

-- what is sent to a PET, from what is kept of it
pub shared-halo : (layout : Layout) (offsets : List (ℤ × ℤ)) (from to : ℕ) (part : Part) (pair : HaloPair) → IsPairOf layout offsets to pair → IsPartOf layout from part → filter (is_halo pair.decomp.now pair.offsets.now pair.pet) (cells_of_part pair.decomp.now.grid part) ≡ shared_cells layout (is_halo layout offsets) from to
shared-halo layout offsets from to part pair is is_part =
    (λ i. filter (is_halo (is.of_layout i) (is.of_offsets i) (is.of_pet i)) (cells_of_part (is.of_layout i).grid part))
    ∙ sym (shared-part layout (is_halo layout offsets) from to part is_part)

-- the part of a PET for which things are kept
pub pair-part : (layout : Layout) (offsets : List (ℤ × ℤ)) (pet : ℕ) (pair : HaloPair) → IsPairOf layout offsets pet pair → IsPartOf layout pet pair.part
pair-part layout offsets pet pair is =
    let P : ℕ → Type 0 = λ n. IsPartOf layout n pair.part in
    let Q : Layout → Type 0 = λ l. IsPartOf l pair.pet pair.part in
    subst P is.of_pet (subst Q is.of_layout is.sound.part)
