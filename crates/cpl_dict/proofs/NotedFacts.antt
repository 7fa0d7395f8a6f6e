-- Lists of numbers in code: what a write to one leaves, and a number put behind those of some places.
use Rattle.std.proofs.Common.{◌≡◌, ℕ, ◌+◌, ◌-◌, ◌<◌, Bool, true, false, cond, ◌||◌, eqb, List, [], ◌∷◌, ◌++◌, length, get_or, set, take, All, Vec, Global, nat_eq, Some, refl, sym, ap, subst, ◌∙◌, arith, inl, inr}
use Rattle.std.proofs.lemmas.Bool.{cases_eq, eq-eqb, eqb-false, eqb-true, ne_eqb, or_cases, or_parts, or_right, false≢true}
use Rattle.std.proofs.lemmas.List.{append-nil, get_or-map, get_or_push, get_or-set_same, get_or-set_other, length-map, length_push, length-set, map-set, set-get_or}
use Rattle.std.proofs.lemmas.List.Elements.{All-head, All-tail, All-more, All-weaker}
use Rattle.std.proofs.lemmas.List.Folds.{list_any_at, list_any_more}
use Rattle.std.proofs.lemmas.Option.{slice_get-get_or, slice_get_cases}
use Rattle.std.specs.List.{HoldsAt}
use Rattle.std.specs.Option.{option_eq}
use Rattle.cpl_dict.specs.Kept.{HasRoom, IsNotedAt, ends_with, lists_of, with_number}
use Rattle.cpl_dict.specs.Numbers.{has_number}

-- a list with the same numbers in the place of one leaves the numbers
pub lists_of-set_same : (vecs : List (Vec ℕ Global)) (i : ℕ) (v d : Vec ℕ Global) → i < length vecs → v.items ≡ (get_or vecs i d).items → lists_of (set vecs i v) ≡ lists_of vecs
lists_of-set_same vecs i v d inside same =
    map-set (λ (l : Vec ℕ Global). l.items) vecs i v
    ∙ ap (set (lists_of vecs) i) (same ∙ sym (get_or-map (λ (l : Vec ℕ Global). l.items) vecs i d [] inside))
    ∙ set-get_or (lists_of vecs) i []

-- what holds of the list at a place holds after a write of a list of which it holds
pub HoldsAt-set : (P : Vec ℕ Global → Type 0) (vecs : List (Vec ℕ Global)) (p q : ℕ) (v : Vec ℕ Global) → p < length vecs → P v → HoldsAt P vecs q → HoldsAt P (set vecs p v) q
HoldsAt-set P vecs p q v inside new old d = elim (cases_eq q p) [
  | inl e ↦ subst P (sym (ap (λ k. get_or (set vecs p v) k d) e ∙ get_or-set_same vecs p v d inside)) new
  | inr ne ↦ subst P (sym (get_or-set_other vecs p q v d ne)) (old d)
]

-- one more place has room
pub HasRoom-more : (vecs : List (Vec ℕ Global)) (places : List ℕ) (k : ℕ) (v : Vec ℕ Global) → k < length places → get_or places k 0 < length vecs → HasRoom v → All (HoldsAt HasRoom vecs) (take k places) → All (HoldsAt HasRoom (set vecs (get_or places k 0) v)) (take (k + 1) places)
HasRoom-more vecs places k v inside placed room so_far =
    let p = get_or places k 0 in
    All-more (HoldsAt HasRoom (set vecs p v)) places k 0 inside
    (All-weaker (HoldsAt HasRoom vecs) (HoldsAt HasRoom (set vecs p v)) (λ q. HoldsAt-set HasRoom vecs p q v placed room) (take k places) so_far)
    (λ d. subst HasRoom (sym (get_or-set_same vecs p v d placed)) room)

-- what holds of each place holds of one that is among them
pub All-has_number : (P : ℕ → Type 0) (places : List ℕ) (p : ℕ) → All P places → has_number places p ≡ true → P p
All-has_number P [] p all there = absurd (false≢true there)
All-has_number P (q ∷ qs) p all there = elim (or_cases (eqb q p) (has_number qs p) there) [
  | inl e ↦ subst P (eqb-true q p e) (All-head P q qs all)
  | inr more ↦ All-has_number P qs p (All-tail P q qs all) more
]

-- before the first place nothing is noted
pub IsNotedAt-none : (number : ℕ) (lists : List (List ℕ)) → IsNotedAt [] number lists lists
IsNotedAt-none number lists = record { counted = refl; noted = λ p. sym (append-nil (get_or lists p [])) }

-- or with what is false
or_false : (b : Bool) → (b || false) ≡ b
or_false true = refl
or_false false = refl

-- lists with the same numbers are as many
pub length-lists_of : (a b : List (Vec ℕ Global)) → lists_of a ≡ lists_of b → length a ≡ length b
length-lists_of a b e = sym (length-map a (λ (l : Vec ℕ Global). l.items)) ∙ ap length e ∙ length-map b (λ (l : Vec ℕ Global). l.items)

-- a list that a number was put behind ends with it
ends_with-push : (xs : List ℕ) (n : ℕ) → ends_with (xs ++ n ∷ []) n ≡ true
ends_with-push xs n =
    let last = length (xs ++ n ∷ []) - 1 in
    let at : length xs ≡ last = omega (arith, length_push xs n) in
    let inside : last < length (xs ++ n ∷ []) = omega (arith, length_push xs n) in
    ap (λ o. option_eq nat_eq o (Some n)) (slice_get-get_or (xs ++ n ∷ []) last n inside ∙ ap Some (get_or_push xs n n last at)) ∙ eq-eqb n n refl

-- numbers below a number don't end with it
ends_with-below : (xs : List ℕ) (n : ℕ) → All (λ x. x < n) xs → ends_with xs n ≡ false
ends_with-below xs n below = elim (slice_get_cases xs (length xs - 1)).1 [
  | inl there ↦
      let lt : there.0 < n = subst (λ y. y < n) there.3 (below (length xs - 1) there.0 there.1) in
      ap (λ o. option_eq nat_eq o (Some n)) there.2 ∙ ne_eqb there.0 n (λ e. omega arith)
  | inr past ↦ ap (λ o. option_eq nat_eq o (Some n)) past.1
]

-- numbers below a number, with it behind them where it is noted already, end with it exactly there
pub ends_with-noted : (b : Bool) (n : ℕ) (old now : List ℕ) → All (λ x. x < n) old → now ≡ old ++ cond b (n ∷ []) [] → ends_with now n ≡ b
ends_with-noted true n old now below is = ap (λ xs. ends_with xs n) is ∙ ends_with-push old n
ends_with-noted false n old now below is = ap (λ xs. ends_with xs n) (is ∙ append-nil old) ∙ ends_with-below old n below

-- a number has its place in a list once
with_number-once : (b : Bool) (number : ℕ) (old now : List ℕ) → now ≡ old ++ cond b (number ∷ []) [] → with_number b number now ≡ old ++ number ∷ []
with_number-once true number old now is = is
with_number-once false number old now is = ap (λ l. l ++ number ∷ []) (is ∙ append-nil old)

-- among one more place
has_number-more : (places : List ℕ) (k p : ℕ) (b : Bool) → k < length places → eqb (get_or places k 0) p ≡ b → has_number (take (k + 1) places) p ≡ (has_number (take k places) p || b)
has_number-more places k p b inside e =
    list_any_more (λ q. eqb q p) places k 0 inside ∙ ap (λ t. has_number (take k places) p || t) e

-- a place that is no member of one more is none of those before
pub has_number-not_before : (places : List ℕ) (k p : ℕ) → k < length places → has_number (take (k + 1) places) p ≡ false → (has_number (take k places) p ≡ false) × (p ≡ get_or places k 0 → ⊥)
has_number-not_before places k p inside absent =
    let parts = or_parts _ _ (sym (has_number-more places k p (eqb (get_or places k 0) p) inside refl) ∙ absent) in
    (parts.0, λ same. eqb-false (get_or places k 0) p parts.1 (sym same))

-- one more place is noted
pub IsNotedAt-more : (places : List ℕ) (k number : ℕ) (old now : List (List ℕ)) (list : List ℕ) → k < length places → get_or places k 0 < length now → list ≡ with_number (has_number (take k places) (get_or places k 0)) number (get_or now (get_or places k 0) []) → IsNotedAt (take k places) number old now → IsNotedAt (take (k + 1) places) number old (set now (get_or places k 0) list)
IsNotedAt-more places k number old now list inside placed is h =
    let p = get_or places k 0 in
    let after : ℕ → List ℕ = λ q. get_or old q [] ++ cond (has_number (take (k + 1) places) q) (number ∷ []) [] in
    let there : has_number (take (k + 1) places) p ≡ true = has_number-more places k p true inside (eq-eqb p p refl) ∙ or_right (has_number (take k places) p) true refl in
    let here : get_or (set now p list) p [] ≡ after p =
    get_or-set_same now p list [] placed ∙ is
    ∙ with_number-once (has_number (take k places) p) number (get_or old p []) (get_or now p []) (h.noted p)
    ∙ ap (λ b. get_or old p [] ++ cond b (number ∷ []) []) (sym there) in
    record {
      counted = length-set now p list ∙ h.counted;
      noted = λ q. elim (cases_eq q p) [
        | inl e ↦ let P : ℕ → Type 0 = λ r. get_or (set now p list) r [] ≡ after r in subst P (sym e) here
        | inr ne ↦
            get_or-set_other now p q list [] ne ∙ h.noted q
            ∙ ap (λ b. get_or old q [] ++ cond b (number ∷ []) []) (sym (has_number-more places k q false inside (ne_eqb p q (λ same. ne (sym same))) ∙ or_false (has_number (take k places) q)))
      ];
    }

-- the list at a place ends with the number exactly where the place was passed
pub ends_with-place : (places : List ℕ) (k number : ℕ) (old now : List (List ℕ)) (p : ℕ) → All (All (λ x. x < number)) old → p < length old → IsNotedAt (take k places) number old now → ends_with (get_or now p []) number ≡ has_number (take k places) p
ends_with-place places k number old now p below inside h =
    ends_with-noted (has_number (take k places) p) number (get_or old p []) (get_or now p []) (below p [] inside) (h.noted p)

-- the lists of places that weren't passed have room
abbrev pub HasRoomLeft : List ℕ → ℕ → List (Vec ℕ Global) → Type 0
HasRoomLeft places k vecs = (p : ℕ) → has_number places p ≡ true → has_number (take k places) p ≡ false → HoldsAt HasRoom vecs p

-- the list that is written is that of a place that was passed then
pub HasRoomLeft-more : (places : List ℕ) (k : ℕ) (vecs : List (Vec ℕ Global)) (v : Vec ℕ Global) → k < length places → HasRoomLeft places k vecs → HasRoomLeft places (k + 1) (set vecs (get_or places k 0) v)
HasRoomLeft-more places k vecs v inside left q among absent d =
    let before = has_number-not_before places k q inside absent in
    subst HasRoom (sym (get_or-set_other vecs (get_or places k 0) q v d before.1)) (left q among before.0 d)

-- the numbers at a place are those of the list that was read there
pub lists_of-read : (vecs : List (Vec ℕ Global)) (p : ℕ) (v : Vec ℕ Global) → p < length vecs → v ≡ get_or vecs p v → get_or (lists_of vecs) p [] ≡ v.items
lists_of-read vecs p v inside read = get_or-map (λ (l : Vec ℕ Global). l.items) vecs p v [] inside ∙ ap (λ (l : Vec ℕ Global). l.items) (sym read)

-- a place of the list is among its places
pub has_number-at : (places : List ℕ) (k : ℕ) → k < length places → has_number places (get_or places k 0) ≡ true
has_number-at places k inside = list_any_at (λ q. eqb q (get_or places k 0)) places k 0 inside (eq-eqb (get_or places k 0) (get_or places k 0) refl)

-- A step of the loop that notes: the list that is read at the next place.
pub record IsNextList (places : List ℕ) (k number : ℕ) (old now : List (Vec ℕ Global)) (list : Vec ℕ Global) : Type 0 where
  pub inside : k < length places
  pub placed : get_or places k 0 < length old
  pub below : All (All (λ x. x < number)) (lists_of old)
  pub noted : IsNotedAt (take k places) number (lists_of old) (lists_of now)
  pub read : list ≡ get_or now (get_or places k 0) list

-- the place is one of the lists as they are now
pub next_placed : {places : List ℕ} {k number : ℕ} {old now : List (Vec ℕ Global)} {list : Vec ℕ Global} → IsNextList places k number old now list → get_or places k 0 < length now
next_placed {old = old} {now = now} n =
    omega (arith, n.placed, n.noted.counted, length-map now (λ (l : Vec ℕ Global). l.items), length-map old (λ (l : Vec ℕ Global). l.items))

-- the list ends with the number exactly where the place was passed
pub next_ends : {places : List ℕ} {k number : ℕ} {old now : List (Vec ℕ Global)} {list : Vec ℕ Global} → IsNextList places k number old now list → ends_with list.items number ≡ has_number (take k places) (get_or places k 0)
next_ends {places} {k} {number} {old} {now} {list} n =
    let p = get_or places k 0 in
    let in_old : p < length (lists_of old) = omega (arith, n.placed, length-map old (λ (l : Vec ℕ Global). l.items)) in
    ap (λ xs. ends_with xs number) (sym (lists_of-read now p list (next_placed n) n.read))
    ∙ ends_with-place places k number (lists_of old) (lists_of now) p n.below in_old n.noted

-- it has room where it doesn't end with the number
pub next_has_room : {places : List ℕ} {k number : ℕ} {old now : List (Vec ℕ Global)} {list : Vec ℕ Global} → IsNextList places k number old now list → HasRoomLeft places k now → ends_with list.items number ≡ false → HasRoom list
next_has_room {places} {k} {list = list} n left ends =
    subst HasRoom (sym n.read) (left (get_or places k 0) (has_number-at places k n.inside) (sym (next_ends n) ∙ ends) list)

-- with the number behind it, one more place is noted
pub next_noted : {places : List ℕ} {k number : ℕ} {old now : List (Vec ℕ Global)} {list : Vec ℕ Global} → IsNextList places k number old now list → (written : Vec ℕ Global) → written.items ≡ with_number (ends_with list.items number) number list.items → IsNotedAt (take (k + 1) places) number (lists_of old) (lists_of (set now (get_or places k 0) written))
next_noted {places} {k} {number} {old} {now} {list} n written is =
    let p = get_or places k 0 in
    let in_now : p < length (lists_of now) = omega (arith, next_placed n, length-map now (λ (l : Vec ℕ Global). l.items)) in
    let same = sym (lists_of-read now p list (next_placed n) n.read) in
    let becomes : written.items ≡ with_number (has_number (take k places) p) number (get_or (lists_of now) p []) =
    is ∙ (λ j. with_number (next_ends n j) number (same j)) in
    subst (IsNotedAt (take (k + 1) places) number (lists_of old)) (sym (map-set (λ (l : Vec ℕ Global). l.items) now p written))
    (IsNotedAt-more places k number (lists_of old) (lists_of now) written.items n.inside in_now becomes n.noted)
