-- Lists of numbers in rows, and what a filter keeps of a run.
use Rattle.std.proofs.Common.{◌≡◌, ℕ, zero, suc, ◌+◌, ◌<◌, ◌≤◌, Bool, true, false, cond, List, [], ◌∷◌, ◌++◌, ℤ, pos, filter, get_or, take, drop, length, map, refl, sym, ap, ◌∙◌, inl, inr, arith, subst, zero-add}
use Rattle.std.proofs.lemmas.Bool.{cases_Bool, cases_eq}
use Rattle.std.proofs.lemmas.List.{map-append}
use Rattle.std.proofs.lemmas.List.Elements.{All-append, All-filter, All-head, All-nil, All-tail, filter-append, filter_passes}
use Rattle.std.proofs.Math.Seq.{drop-cons}
use Rattle.std.specs.List.{All, flat_map, range_with_len}
use Rattle.cpl_field.specs.Copies.{IsOther}
use Rattle.cpl_grid.specs.Blocks.{numbers_below}
use Rattle.cpl_grid.proofs.RangeFacts.{All-range, range-suc}

-- what two functions make of a list whose members they make the same of
pub map-same : (P : ℕ → Type 0) (f g : ℕ → ℤ) → ((s : ℕ) → P s → f s ≡ g s) → (xs : List ℕ) → All P xs → map f xs ≡ map g xs
map-same P f g same [] all = refl
map-same P f g same (x ∷ xs) all =
    λ i. same x (All-head P x xs all) i ∷ map-same P f g same xs (All-tail P x xs all) i

-- what holds of each member of rows
pub All-rows : (P : ℕ → Type 0) (f : ℕ → List ℕ) (a n : ℕ) → ((j : ℕ) → a ≤ j → j < a + n → All P (f j)) → All P (flat_map f (range_with_len a n))
All-rows P f a zero each = All-nil P
All-rows P f a (suc n) each =
    All-append P (f a) (flat_map f (range_with_len (a + 1) n)) (each a (omega arith) (omega arith)) (All-rows P f (a + 1) n (λ j from to. each j (omega arith) (omega arith)))

-- what a function makes of rows, by what it makes of each
pub map-rows : (F : ℕ → ℤ) (f : ℕ → List ℕ) (g : ℕ → List ℤ) (a n : ℕ) → ((j : ℕ) → a ≤ j → j < a + n → map F (f j) ≡ g j) → map F (flat_map f (range_with_len a n)) ≡ flat_map g (range_with_len a n)
map-rows F f g a zero each = refl
map-rows F f g a (suc n) each =
    map-append F (f a) (flat_map f (range_with_len (a + 1) n))
    ∙ (λ i. each a (omega arith) (omega arith) i ++ map-rows F f g (a + 1) n (λ j from to. each j (omega arith) (omega arith)) i)

-- what a function makes of a run of numbers is a run of a list
pub map-run : (F : ℕ → ℤ) (field : List ℤ) (s place n : ℕ) → ((i : ℕ) → i < n → F (s + i) ≡ get_or field (place + i) (pos 0)) → place + n ≤ length field → map F (range_with_len s n) ≡ take n (drop place field)
map-run F field s place zero each within = refl
map-run F field s place (suc n) each within =
    let here : s + 0 ≡ s = omega arith in
    let there : place + 0 ≡ place = omega arith in
    let first : F s ≡ get_or field place (pos 0) = ap F (sym here) ∙ each 0 (omega arith) ∙ ap (λ k. get_or field k (pos 0)) there in
    let next : suc place ≡ place + 1 = omega arith in
    let further : (i : ℕ) → i < n → F (s + 1 + i) ≡ get_or field (place + 1 + i) (pos 0) = λ i below.
    let at : s + 1 + i ≡ s + suc i = omega arith in
    let at_place : place + suc i ≡ place + 1 + i = omega arith in
    ap F at ∙ each (suc i) (omega arith) ∙ ap (λ k. get_or field k (pos 0)) at_place in
    let rest = map-run F field (s + 1) (place + 1) n further (omega arith) in
    let parts : take (suc n) (drop place field) ≡ get_or field place (pos 0) ∷ take n (drop (place + 1) field) =
    ap (take (suc n)) (drop-cons field place (pos 0) (omega arith)) ∙ ap (λ k. get_or field place (pos 0) ∷ take n (drop k field)) next in
    (λ i. first i ∷ rest i) ∙ sym parts

-- a filter of one number
filter_one : (p : ℕ → Bool) (n : ℕ) → filter p (n ∷ []) ≡ cond (p n) (n ∷ []) []
filter_one p n = elim (cases_Bool (p n)) [
  | inl passes ↦ rw passes refl
  | inr fails ↦ rw fails refl
]

-- a filter over one number more
pub filter-more : (p : ℕ → Bool) (n : ℕ) → filter p (numbers_below (n + 1)) ≡ filter p (numbers_below n) ++ cond (p n) (n ∷ []) []
filter-more p n =
    let next : n + 1 ≡ suc n = omega arith in
    let last : filter p ((0 + n) ∷ []) ≡ cond (p n) (n ∷ []) [] =
    ap (λ k. filter p (k ∷ [])) (zero-add n) ∙ filter_one p n in
    ap (λ k. filter p (numbers_below k)) next
    ∙ ap (filter p) (range-suc 0 n)
    ∙ filter-append p (numbers_below n) ((0 + n) ∷ [])
    ∙ ap (λ xs. filter p (numbers_below n) ++ xs) last

-- what a function makes of one number or none
pub map-one : (f : ℕ → ℕ) (b : Bool) (n : ℕ) → map f (cond b (n ∷ []) []) ≡ cond b (f n ∷ []) []
map-one f true n = refl
map-one f false n = refl

-- what a filter keeps of the first numbers is below their count and passes
pub record IsKept (p : ℕ → Bool) (n x : ℕ) : Type 0 where
  pub below : x < n
  pub passes : p x ≡ true

pub kept-of : (p : ℕ → Bool) (n : ℕ) (xs : List ℕ) → xs ≡ filter p (numbers_below n) → (j : ℕ) → j < length xs → IsKept p n (get_or xs j 0)
kept-of p n xs is j inside =
    let P : ℕ → Type 0 = λ x. x < n in
    let below : All P (filter p (numbers_below n)) = All-filter p P (numbers_below n) (All-range P 0 n (λ s from to. omega arith)) in
    let inside' : j < length (filter p (numbers_below n)) = rw (sym is) inside in
    let Q : List ℕ → Type 0 = λ ys. IsKept p n (get_or ys j 0) in
    subst Q (sym is) (record { below = below j 0 inside'; passes = filter_passes p (numbers_below n) j 0 inside' })

-- where a number stands in a list
pub record IsFound (xs : List ℕ) (x : ℕ) : Type 0 where
  pub at : ℕ
  pub within : at < length xs
  pub is : get_or xs at 0 ≡ x

-- one place further
pub found_behind : (y : ℕ) (xs : List ℕ) (x : ℕ) → IsFound xs x → IsFound (y ∷ xs) x
found_behind y xs x found =
    let within = found.within in
    record { at = suc found.at; within = omega arith; is = found.is }

-- a number that is no other's and not the first
pub behind_too : (y : ℕ) (xs : List ℕ) (x : ℕ) → (y ≡ x → ⊥) → IsOther (length xs) xs x → IsOther (length (y ∷ xs)) (y ∷ xs) x
behind_too y xs x other nowhere zero inside same = other same
behind_too y xs x other nowhere (suc j) inside same = nowhere j (omega arith) same

-- a number that passes is kept
filter_finds : (p : ℕ → Bool) (a n x : ℕ) → a ≤ x → x < a + n → p x ≡ true → IsFound (filter p (range_with_len a n)) x
filter_finds p a zero x from to passes = absurd (omega arith)
filter_finds p a (suc n) x from to passes = elim (cases_eq a x) [
  | inl same ↦
      let here : p a ≡ true = ap p same ∙ passes in
      rw here (record { at = 0; within = omega arith; is = same })
  | inr other ↦
      let rest = filter_finds p (a + 1) n x (omega arith) (omega arith) passes in
      elim (cases_Bool (p a)) [
        | inl kept ↦ rw kept (found_behind a (filter p (range_with_len (a + 1) n)) x rest)
        | inr dropped ↦ rw dropped rest
      ]
]

pub found-of : (p : ℕ → Bool) (n : ℕ) (xs : List ℕ) → xs ≡ filter p (numbers_below n) → (x : ℕ) → x < n → p x ≡ true → IsFound xs x
found-of p n xs is x below passes =
    let Q : List ℕ → Type 0 = λ ys. IsFound ys x in
    subst Q (sym is) (filter_finds p 0 n x (omega arith) (omega arith) passes)
