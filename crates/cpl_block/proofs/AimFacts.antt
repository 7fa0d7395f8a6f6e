-- Where the values of a parcel go.
use Rattle.std.proofs.Common.{◌≡◌, ℕ, ◌+◌, ◌<◌, ◌≤◌, Bool, true, false, cond, eqb, ◌⊎◌, List, [], ◌∷◌, ◌++◌, ℤ, pos, filter, get_or, length, Some, refl, sym, ap, subst, ◌∙◌, inl, inr, arith, length-append}
use Rattle.std.proofs.lemmas.Bool.{and_parts, cases_Bool, cases_eq, cases_lt, ne_eqb}
use Rattle.std.proofs.lemmas.List.{append-nil, get_or-map}
use Rattle.std.proofs.lemmas.List.Elements.{All-from_get_or, All-get_or}
use Rattle.std.proofs.lemmas.List.Folds.{list_any_none}
use Rattle.std.proofs.Math.ListN.{get_or-append}
use Rattle.std.proofs.Math.Seq.{get_or-append_seam}
use Rattle.std.proofs.lemmas.List.Sorted.{searched}
use Rattle.std.specs.List.Sorted.{IsBinarySearchResult}
use Rattle.std.proofs.lemmas.Option.{slice_get-get_or}
use Rattle.std.specs.Ordering.{nat_cmp}
use Rattle.std.specs.Prelude.{MatchResult, Result, Ok, Err, slice_get}
use Rattle.std.specs.List.{All, list_any}
use Rattle.cpl_base.specs.Numbers.{IsValue}
use Rattle.cpl_field.specs.Copies.{AreSame, IsCopied, IsOther}
use Rattle.cpl_grid.proofs.RangeFacts.{kept_once}
use Rattle.cpl_grid.specs.Blocks.{numbers_below}
use Rattle.cpl_block.specs.Aims.{AreAscending, IsAim, IsAimFor, IsAimedMore, IsPlacedIn, IsPut, is_aimed}
use Rattle.cpl_block.specs.Frames.{IsOwn, is_ours, is_own, places_in, stands_for, value_at}
use Rattle.cpl_block.specs.Rings.{is_far}
use Rattle.cpl_block.specs.declared.aim.Aim.{Aim}
use Rattle.cpl_block.specs.declared.frame.Frame.{Frame}
use Rattle.cpl_block.proofs.ListFacts.{IsFound, behind_too, found_behind, found-of, kept-of}
use Rattle.cpl_block.proofs.RingFacts.{far-other, list_more, true_false}

-- the first so many places are noted
pub record IsAimedUpTo (frame : Frame) (cells : List ℕ) (n : ℕ) (aim : Aim) : Type 0 where
  pub to : aim.to.items ≡ filter (is_aimed frame cells) (numbers_below n)
  pub count : length aim.from.items ≡ length aim.to.items
  pub cell : (j : ℕ) → j < length aim.to.items → IsPlacedIn cells (stands_for frame (get_or aim.to.items j 0)) (get_or aim.from.items j 0)

-- a place that is aimed at, or isn't
pub far-is : (frame : Frame) (place : ℕ) → is_own frame place ≡ false → is_ours frame (stands_for frame place) ≡ false → is_far frame place ≡ true
unfolding is_far
far-is frame place other strange = rw (other, strange) refl

pub aimed-is : (frame : Frame) (cells : List ℕ) (place : ℕ) (b : Bool) → is_far frame place ≡ true → list_any (λ s. eqb s (stands_for frame place)) cells ≡ b → is_aimed frame cells place ≡ b
unfolding is_aimed
aimed-is frame cells place b far among = rw far among

pub aimed-far : (frame : Frame) (cells : List ℕ) (place : ℕ) → is_aimed frame cells place ≡ true → is_far frame place ≡ true
unfolding is_aimed
aimed-far frame cells place aimed = (and_parts _ _ aimed).0

-- what a search among ascending cells finds
pub found-in : (cells : List ℕ) (s k : ℕ) (r : Result ℕ ℕ) → IsBinarySearchResult (λ y. nat_cmp y s) cells r → AreAscending cells → r ≡ Ok k → IsPlacedIn cells s k
found-in cells s k r is ascending found =
    let P : Result ℕ ℕ → Type 0 = λ t. MatchResult t (λ i. (i < length cells) × (get_or cells i 0 ≡ s)) (λ i. (i ≤ length cells) × ((j : ℕ) → j < i → get_or cells j 0 < s) × ((j : ℕ) → i ≤ j → j < length cells → s < get_or cells j 0)) in
    let at : P (Ok k) = subst P found (searched cells s r is ascending) in
    record { within = at.0; is = at.1 }

pub missed-in : (cells : List ℕ) (s k : ℕ) (r : Result ℕ ℕ) → IsBinarySearchResult (λ y. nat_cmp y s) cells r → AreAscending cells → r ≡ Err k → list_any (λ t. eqb t s) cells ≡ false
missed-in cells s k r is ascending missed =
    let P : Result ℕ ℕ → Type 0 = λ t. MatchResult t (λ i. (i < length cells) × (get_or cells i 0 ≡ s)) (λ i. (i ≤ length cells) × ((j : ℕ) → j < i → get_or cells j 0 < s) × ((j : ℕ) → i ≤ j → j < length cells → s < get_or cells j 0)) in
    let at : P (Err k) = subst P missed (searched cells s r is ascending) in
    list_any_none (λ t. eqb t s) cells (All-from_get_or (λ t. eqb t s ≡ false) cells 0 (λ j inside.
    ne_eqb (get_or cells j 0) s (λ same.
    elim (cases_lt j k) [
      | inl before ↦ let less = at.1 j before in omega arith
      | inr behind ↦ let more = at.2 j behind inside in omega arith
    ])))

-- one place more, that is aimed at or not
pub aimed-one : (frame : Frame) (cells : List ℕ) (place k : ℕ) (old new : Aim) → is_aimed frame cells place ≡ true → IsPlacedIn cells (stands_for frame place) k → new.to.items ≡ old.to.items ++ place ∷ [] → new.from.items ≡ old.from.items ++ k ∷ [] → IsAimedMore frame cells place old new
aimed-one frame cells place k old new aimed placed to from = record {
  to = to ∙ ap (λ b. old.to.items ++ cond b (place ∷ []) []) (sym aimed);
  from = record { k = k; is = from ∙ ap (λ b. old.from.items ++ cond b (k ∷ []) []) (sym aimed); placed = λ is. placed };
}

pub aimed-none : (frame : Frame) (cells : List ℕ) (place : ℕ) (old : Aim) → is_aimed frame cells place ≡ false → IsAimedMore frame cells place old old
aimed-none frame cells place old other = record {
  to = sym (append-nil old.to.items) ∙ ap (λ b. old.to.items ++ cond b (place ∷ []) []) (sym other);
  from = record { k = 0; is = sym (append-nil old.from.items) ∙ ap (λ b. old.from.items ++ cond b (0 ∷ []) []) (sym other); placed = λ is. absurd (true_false _ is other) };
}

-- each place of a list has its cell at the place of the other list
ArePlaced : List ℕ → (ℕ → ℕ) → List ℕ → List ℕ → Type 0
ArePlaced cells stand to from = (j : ℕ) → j < length to → IsPlacedIn cells (stand (get_or to j 0)) (get_or from j 0)

pushed_cell : (cells : List ℕ) (stand : ℕ → ℕ) (to from : List ℕ) (place k : ℕ) → length from ≡ length to → ArePlaced cells stand to from → IsPlacedIn cells (stand place) k → ArePlaced cells stand (to ++ place ∷ []) (from ++ k ∷ [])
unfolding ArePlaced
pushed_cell cells stand to from place k same each placed j inside =
    let longer = length-append to (place ∷ []) in
    elim (cases_lt j (length to)) [
      | inl before ↦
          rw (get_or-append to (place ∷ []) 0 j before, get_or-append from (k ∷ []) 0 j (omega (arith, same))) (each j before)
      | inr last ↦
          let at : j ≡ length to = omega arith in
          let at_from : j ≡ length from = omega arith in
          let to_is : get_or (to ++ place ∷ []) j 0 ≡ place = ap (λ i. get_or (to ++ place ∷ []) i 0) at ∙ get_or-append_seam to place [] 0 in
          let from_is : get_or (from ++ k ∷ []) j 0 ≡ k = ap (λ i. get_or (from ++ k ∷ []) i 0) at_from ∙ get_or-append_seam from k [] 0 in
          rw (to_is, from_is) placed
    ]

pub aimed-more : (frame : Frame) (cells : List ℕ) (n : ℕ) (old new : Aim) → IsAimedUpTo frame cells n old → IsAimedMore frame cells n old new → IsAimedUpTo frame cells (n + 1) new
unfolding ArePlaced
aimed-more frame cells n old new before more =
    let to = list_more (is_aimed frame cells) n old.to.items new.to.items before.to more.to in
    let k = more.from.k in
    elim (cases_Bool (is_aimed frame cells n)) [
      | inl aimed ↦
          let to_is : new.to.items ≡ old.to.items ++ n ∷ [] = more.to ∙ ap (λ b. old.to.items ++ cond b (n ∷ []) []) aimed in
          let from_is : new.from.items ≡ old.from.items ++ k ∷ [] = more.from.is ∙ ap (λ b. old.from.items ++ cond b (k ∷ []) []) aimed in
          let each = pushed_cell cells (stands_for frame) old.to.items old.from.items n k before.count before.cell (more.from.placed aimed) in
          record {
            to = to;
            count = rw (to_is, from_is, length-append old.from.items (k ∷ []), length-append old.to.items (n ∷ []), before.count) refl;
            cell = rw (to_is, from_is) each;
          }
      | inr other ↦
          let to_is : new.to.items ≡ old.to.items = more.to ∙ ap (λ b. old.to.items ++ cond b (n ∷ []) []) other ∙ append-nil old.to.items in
          let from_is : new.from.items ≡ old.from.items = more.from.is ∙ ap (λ b. old.from.items ++ cond b (k ∷ []) []) other ∙ append-nil old.from.items in
          record {
            to = to;
            count = rw (to_is, from_is) before.count;
            cell = rw (to_is, from_is) before.cell;
          }
    ]

pub aimed-all : (frame : Frame) (cells : List ℕ) (aim : Aim) (n : ℕ) → n ≡ places_in frame → IsAimedUpTo frame cells n aim → IsAim frame cells aim
aimed-all frame cells aim n all noted =
    let P : ℕ → Type 0 = λ k. IsAimedUpTo frame cells k aim in
    let whole = subst P all noted in
    record { to = whole.to; count = whole.count; cell = whole.cell }

-- a place stands once in the list
once : (frame : Frame) (cells : List ℕ) (aim : Aim) → IsAim frame cells aim → AreSame aim.to.items aim.from.items
once frame cells aim is j k at_j at_k same =
    let p = is_aimed frame cells in
    let xs = aim.to.items in
    let s = get_or xs j 0 in
    let first : slice_get xs j ≡ Some s = slice_get-get_or xs j 0 at_j in
    let second : slice_get xs k ≡ Some s = slice_get-get_or xs k 0 at_k ∙ ap Some (sym same) in
    let alike : j ≡ k = kept_once p 0 (places_in frame) j k s (subst (λ (ys : List ℕ). slice_get ys j ≡ Some s) is.to first) (subst (λ (ys : List ℕ). slice_get ys k ≡ Some s) is.to second) in
    ap (λ i. get_or aim.from.items i 0) alike

pub aim-fits : (frame : Frame) (cells : List ℕ) (aim : Aim) → IsAim frame cells aim → IsAimFor frame (length cells) aim
aim-fits frame cells aim is = record {
  lengths = is.count;
  to = All-from_get_or (λ place. place < places_in frame) aim.to.items 0 (λ j inside.
      (kept-of (is_aimed frame cells) (places_in frame) aim.to.items is.to j inside).below);
  from = All-from_get_or (λ k. k < length cells) aim.from.items 0 (λ j inside.
      (is.cell j (omega (arith, is.count))).within);
  same = once frame cells aim is;
  far = All-from_get_or (λ place. is_far frame place ≡ true) aim.to.items 0 (λ j inside.
      aimed-far frame cells _ (kept-of (is_aimed frame cells) (places_in frame) aim.to.items is.to j inside).passes);
}

-- a number stands in a list, or nowhere
found_or_not : (xs : List ℕ) (x : ℕ) → IsFound xs x ⊎ IsOther (length xs) xs x
found_or_not [] x = inr (λ j inside same. omega arith)
found_or_not (y ∷ xs) x = elim (cases_eq y x) [
  | inl same ↦ inl (record { at = 0; within = omega arith; is = same })
  | inr other ↦ elim (found_or_not xs x) [
    | inl found ↦ inl (found_behind y xs x found)
    | inr nowhere ↦ inr (behind_too y xs x other nowhere)
  ]
]

pub put-own : (frame : Frame) (count : ℕ) (aim : Aim) (values old new : List ℤ) → IsAimFor frame count aim → IsCopied aim.to.items aim.from.items values old new → (value : ℕ → ℤ) → IsOwn frame value old → IsOwn frame value new
put-own frame count aim values old new fits copied value own place within is =
    copied.kept place (λ j inside same.
    let far = All-get_or (λ place. is_far frame place ≡ true) aim.to.items j 0 inside fits.far in
    true_false _ is (ap (is_own frame) (sym same) ∙ far-other frame _ far))
    ∙ own place within is

pub put-values : (frame : Frame) (aim : Aim) (values old new : List ℤ) → IsAimFor frame (length values) aim → IsCopied aim.to.items aim.from.items values old new → All IsValue values → All IsValue old → All IsValue new
put-values frame aim values old new fits copied all_new all_old =
    All-from_get_or IsValue new (pos 0) (λ place inside.
    elim (found_or_not aim.to.items place) [
      | inl found ↦
          let at = found.at in
          let from = All-get_or (λ k. k < length values) aim.from.items at 0 (omega (arith, fits.lengths, found.within)) fits.from in
          let is : value_at new place ≡ value_at values (get_or aim.from.items at 0) = ap (value_at new) (sym found.is) ∙ copied.filled at found.within in
          rw is (All-get_or IsValue values (get_or aim.from.items at 0) (pos 0) from all_new)
      | inr nowhere ↦
          rw (copied.kept place nowhere) (All-get_or IsValue old place (pos 0) (omega (arith, copied.places)) all_old)
    ])

pub put-all : (frame : Frame) (aim : Aim) (values old new : List ℤ) → IsCopied aim.to.items aim.from.items values old new → (cells : List ℕ) → IsAim frame cells aim → IsPut frame cells values old new
put-all frame aim values old new copied cells is = record {
  aimed = λ value values_are place within aimed.
      let found = found-of (is_aimed frame cells) (places_in frame) aim.to.items is.to place within aimed in
      let placed = is.cell found.at found.within in
      let k = get_or aim.from.items found.at 0 in
      ap (value_at new) (sym found.is)
      ∙ copied.filled found.at found.within
      ∙ ap (λ xs. value_at xs k) values_are
      ∙ get_or-map value cells k 0 (pos 0) placed.within
      ∙ ap value (placed.is ∙ ap (stands_for frame) found.is);
  kept = λ place other.
      copied.kept place (λ j inside same.
      true_false _ (kept-of (is_aimed frame cells) (places_in frame) aim.to.items is.to j inside).passes (ap (is_aimed frame cells) same ∙ other));
}
