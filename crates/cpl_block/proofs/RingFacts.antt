-- The places of the ring.
use Rattle.std.proofs.Common.{◌≡◌, ℕ, ◌+◌, ◌<◌, Bool, true, false, cond, List, [], ◌∷◌, ◌++◌, ℤ, pos, filter, get_or, length, map, refl, sym, ap, subst, ◌∙◌, inl, inr, arith}
use Rattle.std.proofs.lemmas.Bool.{and_parts, cases_Bool, not-true}
use Rattle.std.proofs.lemmas.List.{get_or-map, length-map, map-append}
use Rattle.std.proofs.lemmas.List.Elements.{All-from_get_or, All-get_or}
use Rattle.std.specs.List.{All}
use Rattle.cpl_base.specs.Numbers.{IsValue}
use Rattle.cpl_field.specs.Copies.{AreApart, IsCopied}
use Rattle.cpl_grid.specs.Blocks.{numbers_below}
use Rattle.cpl_block.specs.Frames.{IsOwn, IsRinged, is_ours, is_own, places_in, stands_for, value_at}
use Rattle.cpl_block.specs.Laws.{IsFraming, IsHome}
use Rattle.cpl_block.specs.Rings.{IsArrived, IsNoted, IsRefilled, IsRing, is_far, is_near, source_of}
use Rattle.cpl_block.specs.declared.frame.Frame.{Frame}
use Rattle.cpl_block.specs.declared.ring.Ring.{Ring}
use Rattle.cpl_block.proofs.ListFacts.{filter-more, found-of, kept-of, map-one}

-- the first so many places are noted
pub record IsNotedUpTo (frame : Frame) (count : ℕ) (ring : Ring) : Type 0 where
  pub to : ring.to.items ≡ filter (is_near frame) (numbers_below count)
  pub from : ring.from.items ≡ map (source_of frame) (filter (is_near frame) (numbers_below count))
  pub far : ring.far.items ≡ filter (is_far frame) (numbers_below count)

-- a list with one number more that passes
pub list_more : (p : ℕ → Bool) (n : ℕ) (old new : List ℕ) → old ≡ filter p (numbers_below n) → new ≡ old ++ cond (p n) (n ∷ []) [] → new ≡ filter p (numbers_below (n + 1))
list_more p n old new is more =
    more ∙ ap (λ xs. xs ++ cond (p n) (n ∷ []) []) is ∙ sym (filter-more p n)

mapped_more : (p : ℕ → Bool) (f : ℕ → ℕ) (n : ℕ) (old new : List ℕ) → old ≡ map f (filter p (numbers_below n)) → new ≡ old ++ cond (p n) (f n ∷ []) [] → new ≡ map f (filter p (numbers_below (n + 1)))
mapped_more p f n old new is more =
    more
    ∙ (λ i. is i ++ sym (map-one f (p n) n) i)
    ∙ sym (map-append f (filter p (numbers_below n)) (cond (p n) (n ∷ []) []))
    ∙ ap (map f) (sym (filter-more p n))

pub noted-more : (frame : Frame) (n : ℕ) (old new : Ring) → IsNotedUpTo frame n old → IsNoted frame n old new → IsNotedUpTo frame (n + 1) new
noted-more frame n old new before more = record {
  to = list_more (is_near frame) n old.to.items new.to.items before.to more.to;
  from = mapped_more (is_near frame) (source_of frame) n old.from.items new.from.items before.from more.from;
  far = list_more (is_far frame) n old.far.items new.far.items before.far more.far;
}

pub noted-all : (frame : Frame) (ring : Ring) (n : ℕ) → n ≡ places_in frame → IsNotedUpTo frame n ring → IsRing frame ring
noted-all frame ring n all noted =
    let P : ℕ → Type 0 = λ k. IsNotedUpTo frame k ring in
    let whole = subst P all noted in
    record { to = whole.to; from = whole.from ∙ ap (map (source_of frame)) (sym whole.to); far = whole.far }

-- what a near place is, and a far one
pub record IsNear (frame : Frame) (place : ℕ) : Type 0 where
  pub other : is_own frame place ≡ false
  pub ours : is_ours frame (stands_for frame place) ≡ true

pub near-is : (frame : Frame) (place : ℕ) → is_near frame place ≡ true → IsNear frame place
unfolding is_near
near-is frame place near =
    let parts = and_parts _ _ near in
    record { other = not-true _ parts.0; ours = parts.1 }

pub far-other : (frame : Frame) (place : ℕ) → is_far frame place ≡ true → is_own frame place ≡ false
unfolding is_far
far-other frame place far = not-true _ (and_parts _ _ far).0

-- a place is one of the block, near or far
pub far-from : (frame : Frame) (place : ℕ) → is_own frame place ≡ false → is_near frame place ≡ false → is_far frame place ≡ true
unfolding is_near is_far
far-from frame place other near =
    let ours : is_ours frame (stands_for frame place) ≡ false = rw other at near in
    rw (other, ours) refl

-- a far place isn't near, nor is one of the block's
pub near-far : (frame : Frame) (place : ℕ) → is_far frame place ≡ true → is_near frame place ≡ false
unfolding is_near is_far
near-far frame place far =
    let parts = and_parts _ _ far in
    let ours : is_ours frame (stands_for frame place) ≡ false = not-true _ parts.1 in
    let other : is_own frame place ≡ false = not-true _ parts.0 in
    rw (other, ours) refl

pub near-own : (frame : Frame) (place : ℕ) → is_own frame place ≡ true → is_near frame place ≡ false
unfolding is_near
near-own frame place own = rw own refl

-- a place that is filled, and where it is filled from
record IsFilled (frame : Frame) (place source : ℕ) : Type 0 where
  within : place < places_in frame
  near : is_near frame place ≡ true
  is : source ≡ source_of frame place
  home : IsHome frame (stands_for frame place) source

filled-at : (frame : Frame) (ring : Ring) → IsFraming frame → IsRing frame ring → (j : ℕ) → j < length ring.to.items → IsFilled frame (get_or ring.to.items j 0) (get_or ring.from.items j 0)
filled-at frame ring laws noted j inside =
    let kept = kept-of (is_near frame) (places_in frame) ring.to.items noted.to j inside in
    let place = get_or ring.to.items j 0 in
    let near = near-is frame place kept.passes in
    let source : get_or ring.from.items j 0 ≡ source_of frame place =
    ap (λ xs. get_or xs j 0) noted.from ∙ get_or-map (source_of frame) ring.to.items j 0 0 inside in
    let P : ℕ → Type 0 = λ k. IsHome frame (stands_for frame place) k in
    record {
      within = kept.below;
      near = kept.passes;
      is = source;
      home = subst P (sym source) (laws.homes (stands_for frame place) (laws.cell place) near.ours);
    }

same_lengths : (frame : Frame) (ring : Ring) → IsRing frame ring → length ring.from.items ≡ length ring.to.items
same_lengths frame ring noted = ap length noted.from ∙ length-map ring.to.items (source_of frame)

pub to-within : (frame : Frame) (ring : Ring) (n : ℕ) → IsFraming frame → IsRing frame ring → n ≡ places_in frame → All (λ place. place < n) ring.to.items
to-within frame ring n laws noted long =
    All-from_get_or (λ place. place < n) ring.to.items 0 (λ j inside.
    let filled = filled-at frame ring laws noted j inside in omega (arith, filled.within, long))

pub from-within : (frame : Frame) (ring : Ring) (n : ℕ) → IsFraming frame → IsRing frame ring → n ≡ places_in frame → All (λ place. place < n) ring.from.items
from-within frame ring n laws noted long =
    All-from_get_or (λ place. place < n) ring.from.items 0 (λ j inside.
    let filled = filled-at frame ring laws noted j (omega (arith, same_lengths frame ring noted)) in omega (arith, filled.home.within, long))

-- a test has one answer
pub true_false : (b : Bool) → b ≡ true → b ≡ false → ⊥
true_false b yes_is no_is = let clash : true ≡ false = sym yes_is ∙ no_is in cc

pub to-apart : (frame : Frame) (ring : Ring) → IsFraming frame → IsRing frame ring → AreApart ring.to.items ring.from.items
to-apart frame ring laws noted j k at from same =
    let filled = filled-at frame ring laws noted j at in
    let source = filled-at frame ring laws noted k (omega (arith, same_lengths frame ring noted)) in
    let other = (near-is frame _ filled.near).other in
    true_false _ source.home.own (ap (is_own frame) (sym same) ∙ other)

-- what a copy by these lists leaves at a place
refilled-near : (frame : Frame) (ring : Ring) (old new : List ℤ) → IsFraming frame → IsRing frame ring → IsCopied ring.to.items ring.from.items old old new → (place : ℕ) → place < places_in frame → is_near frame place ≡ true → value_at new place ≡ value_at old (source_of frame place)
refilled-near frame ring old new laws noted copied place within near =
    let found = found-of (is_near frame) (places_in frame) ring.to.items noted.to place within near in
    let filled = filled-at frame ring laws noted found.at found.within in
    ap (value_at new) (sym found.is)
    ∙ copied.filled found.at found.within
    ∙ ap (value_at old) (filled.is ∙ ap (source_of frame) found.is)

refilled-other : (frame : Frame) (ring : Ring) (old new : List ℤ) → IsFraming frame → IsRing frame ring → IsCopied ring.to.items ring.from.items old old new → (place : ℕ) → is_near frame place ≡ false → value_at new place ≡ value_at old place
refilled-other frame ring old new laws noted copied place other =
    copied.kept place (λ j inside same.
    let filled = filled-at frame ring laws noted j inside in
    true_false _ filled.near (ap (is_near frame) same ∙ other))

-- each value is one of the old ones, or another's
refilled-at : (frame : Frame) (ring : Ring) (old new : List ℤ) → IsFraming frame → IsRing frame ring → IsCopied ring.to.items ring.from.items old old new → (place : ℕ) → place < places_in frame → value_at new place ≡ cond (is_near frame place) (value_at old (source_of frame place)) (value_at old place)
refilled-at frame ring old new laws noted copied place within = elim (cases_Bool (is_near frame place)) [
  | inl near ↦ rw near (refilled-near frame ring old new laws noted copied place within near)
  | inr other ↦ rw other (refilled-other frame ring old new laws noted copied place other)
]

refilled_ringed : (frame : Frame) (ring : Ring) (old new : List ℤ) → IsFraming frame → IsRing frame ring → IsCopied ring.to.items ring.from.items old old new → (value : ℕ → ℤ) → IsOwn frame value old → IsArrived frame value old → IsRinged frame value new
refilled_ringed frame ring old new laws noted copied value own arrived place within = elim (cases_Bool (is_near frame place)) [
  | inl near ↦
      let is = near-is frame place near in
      let home = laws.homes (stands_for frame place) (laws.cell place) is.ours in
      refilled-near frame ring old new laws noted copied place within near
      ∙ own (source_of frame place) home.within home.own
      ∙ ap value home.stands
  | inr other ↦
      refilled-other frame ring old new laws noted copied place other
      ∙ elim (cases_Bool (is_own frame place)) [
        | inl ours ↦ own place within ours
        | inr strange ↦ arrived place within (far-from frame place strange other)
      ]
]

refilled_values : (frame : Frame) (ring : Ring) (old new : List ℤ) → IsFraming frame → IsRing frame ring → IsCopied ring.to.items ring.from.items old old new → length old ≡ places_in frame → All IsValue old → All IsValue new
refilled_values frame ring old new laws noted copied long values =
    All-from_get_or IsValue new (pos 0) (λ place inside.
    let within : place < places_in frame = omega (arith, copied.places, long) in
    elim (cases_Bool (is_near frame place)) [
      | inl near ↦
          let home = laws.homes (stands_for frame place) (laws.cell place) (near-is frame place near).ours in
          rw (refilled-near frame ring old new laws noted copied place within near) (All-get_or IsValue old (source_of frame place) (pos 0) (omega (arith, home.within, long)) values)
      | inr other ↦
          rw (refilled-other frame ring old new laws noted copied place other) (All-get_or IsValue old place (pos 0) (omega (arith, within, long)) values)
    ])

pub refilled : (frame : Frame) (ring : Ring) (old new : List ℤ) → IsFraming frame → IsRing frame ring → length old ≡ places_in frame → IsCopied ring.to.items ring.from.items old old new → IsRefilled frame old new
refilled frame ring old new laws noted long copied = record {
  places = refilled-at frame ring old new laws noted copied;
  count = copied.places;
  own = λ value own place within is. refilled-other frame ring old new laws noted copied place (near-own frame place is) ∙ own place within is;
  arrived = λ value arrived place within is. refilled-other frame ring old new laws noted copied place (near-far frame place is) ∙ arrived place within is;
  ringed = refilled_ringed frame ring old new laws noted copied;
  values = refilled_values frame ring old new laws noted copied long;
}
