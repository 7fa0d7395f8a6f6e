-- What is found in lists that are made of others.
use Rattle.std.proofs.Common.{◌≡◌, ℕ, zero, suc, ◌<◌, Bool, true, false, ◌||◌, inl, inr, List, [], ◌∷◌, filter, length, map, get_or, Some, None, Option, ap, ◌∙◌, refl, subst, arith}
use Rattle.std.specs.Prelude.{slice_get, find}
use Rattle.std.specs.List.{All, cons_option, filter_map, flat_map, list_any, zip}
use Rattle.std.specs.Option.{option_map_or}
use Rattle.std.proofs.lemmas.Bool.{cases_Bool}
use Rattle.std.proofs.lemmas.List.Elements.{All-filter, filter_passes}
use Rattle.std.proofs.lemmas.List.Folds.{list_any-append}
use Rattle.std.proofs.lemmas.Option.{none-some}
use Rattle.cpl_sequence.proofs.ListFacts.{All-at}

-- ---- what some member passes

-- of what each member gives
pub any-flat_map : {X Y : Type 0} (p : Y → Bool) (f : X → List Y) (xs : List X) → list_any p (flat_map f xs) ≡ list_any (λ x. list_any p (f x)) xs
any-flat_map p f [] = refl
any-flat_map p f (x ∷ xs) = list_any-append p (f x) (flat_map f xs) ∙ ap (λ b. list_any p (f x) || b) (any-flat_map p f xs)

-- of what there is of each member
pub any-filter_map : {X Y : Type 0} (p : Y → Bool) (f : X → Option Y) (xs : List X) → list_any p (filter_map f xs) ≡ list_any (λ x. option_map_or p (f x) false) xs
any-filter_map p f [] = refl
any-filter_map p f (x ∷ xs) =
    elim (f x) as (λ o. list_any p (cons_option o (filter_map f xs)) ≡ (option_map_or p o false || list_any (λ x. option_map_or p (f x) false) xs)) [
      | None ↦ any-filter_map p f xs
      | Some y ↦ ap (λ b. p y || b) (any-filter_map p f xs)
    ]

-- ---- what is found

-- a member that was found
pub record IsFound {X : Type 0} (p : X → Bool) (xs : List X) (x : X) : Type 0 where
  pub place : ℕ
  pub at : slice_get xs place ≡ Some x
  pub passes : p x ≡ true

-- what is found is a member that passes
pub find-found : {X : Type 0} (p : X → Bool) (xs : List X) (x : X) → find p xs ≡ Some x → IsFound p xs x
find-found p [] x is = absurd (none-some x is)
find-found p (y ∷ ys) x is = elim (cases_Bool (p y)) [
  | inl passes ↦ let here : Some y ≡ Some x = rw passes at is in
      let same : y ≡ x = cc in
      record { place = 0; at = here; passes = subst (λ z. p z ≡ true) same passes }
  | inr fails ↦ let behind : find p ys ≡ Some x = rw fails at is in
      let more = find-found p ys x behind in
      record { place = suc more.place; at = more.at; passes = more.passes }
]

-- a fact of each member holds of what is found
pub find-All : {X : Type 0} (P : X → Type 0) (p : X → Bool) (xs : List X) (x : X) → All P xs → find p xs ≡ Some x → P x
find-All P p xs x all is =
    let found = find-found p xs x is in All-at P xs found.place x all found.at

-- ---- filters

-- of those that pass, what follows from a fact of each and that they pass
pub All-passed : {X : Type 0} (P Q : X → Type 0) (p : X → Bool) → ((x : X) → P x → p x ≡ true → Q x) → (xs : List X) → All P xs → All Q (filter p xs)
All-passed P Q p gives xs all k d inside =
    gives (get_or (filter p xs) k d) (All-filter p P xs all k d inside) (filter_passes p xs k d inside)

-- ---- pairs of members

-- the first of a pair
pub zip-first : {X Y : Type 0} (xs : List X) (ys : List Y) (k : ℕ) (d : X × Y) → k < length (zip xs ys) → slice_get xs k ≡ Some (get_or (zip xs ys) k d).0
zip-first [] ys k d inside = absurd (omega arith)
zip-first (x ∷ xs) [] k d inside = absurd (omega arith)
zip-first (x ∷ xs) (y ∷ ys) zero d inside = refl
zip-first (x ∷ xs) (y ∷ ys) (suc k) d inside = zip-first xs ys k d (omega arith)

-- all first ones
pub zip-firsts : {X Y : Type 0} (xs : List X) (ys : List Y) → length ys ≡ length xs → map (λ (pair : X × Y). pair.0) (zip xs ys) ≡ xs
zip-firsts [] [] same = refl
zip-firsts [] (y ∷ ys) same = absurd (omega arith)
zip-firsts (x ∷ xs) [] same = absurd (omega arith)
zip-firsts (x ∷ xs) (y ∷ ys) same = ap (λ zs. x ∷ zs) (zip-firsts xs ys (omega arith))

-- how many there are
pub length-zip : {X Y : Type 0} (xs : List X) (ys : List Y) → length ys ≡ length xs → length (zip xs ys) ≡ length xs
length-zip [] [] same = refl
length-zip [] (y ∷ ys) same = absurd (omega arith)
length-zip (x ∷ xs) [] same = absurd (omega arith)
length-zip (x ∷ xs) (y ∷ ys) same = ap suc (length-zip xs ys (omega arith))

-- ---- what a list maps to

-- a list that was mapped twice
pub map-map : {X Y Z : Type 0} (g : Y → Z) (f : X → Y) (xs : List X) → map g (map f xs) ≡ map (λ x. g (f x)) xs
map-map g f [] = refl
map-map g f (x ∷ xs) = ap (λ zs. g (f x) ∷ zs) (map-map g f xs)

-- a member of which another is made
pub record IsMapped {X Y : Type 0} (f : X → Y) (xs : List X) (k : ℕ) (y : Y) : Type 0 where
  pub of : X
  pub at : slice_get xs k ≡ Some of
  pub is : f of ≡ y

-- what stands at a place is made of what stands there
pub get-mapped : {X Y : Type 0} (f : X → Y) (xs : List X) (k : ℕ) (y : Y) → slice_get (map f xs) k ≡ Some y → IsMapped f xs k y
get-mapped f [] k y is = absurd (none-some y is)
get-mapped f (x ∷ xs) zero y is = record { of = x; at = refl; is = (let e : f x ≡ y = cc in e) }
get-mapped f (x ∷ xs) (suc k) y is = let more = get-mapped f xs k y is in record { of = more.of; at = more.at; is = more.is }

-- a list that isn't empty has a first member
pub some-first : {X : Type 0} (xs : List X) → (xs ≡ [] → ⊥) → 0 < length xs
some-first [] some = absurd (some refl)
some-first (x ∷ xs) some = omega arith
