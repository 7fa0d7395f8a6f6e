-- Lists that grow by one member.
use Rattle.std.proofs.Common.{◌≡◌, ℕ, ◌+◌, ◌<◌, List, [], ◌∷◌, ◌++◌, Some, None, Option, length, get_or, take, ap, ◌∙◌, sym, refl, subst, arith}
use Rattle.std.specs.List.{All, cons_option, enumerate_from, filter_map, flat_map, zip}
use Rattle.std.specs.Option.{option_to_list}
use Rattle.std.proofs.lemmas.List.{append-nil, length-take, take_more}
use Rattle.std.proofs.lemmas.List.Concat.{flat_map-append}
use Rattle.std.proofs.lemmas.List.Elements.{All-push, filter_map-append}
use Rattle.std.proofs.lemmas.List.FromFn.{get_or-enumerate_from, length-enumerate_from}

-- of lists joined over numbered members
pub numbered-more : {X Y : Type 0} (f : ℕ × X → List Y) (xs : List X) (k : ℕ) (x : X) → k < length xs → x ≡ get_or xs k x → flat_map f (take (k + 1) (enumerate_from 0 xs)) ≡ flat_map f (take k (enumerate_from 0 xs)) ++ f (k, x)
numbered-more f xs k x inside is =
    let numbered = enumerate_from 0 xs in
    let within : k < length numbered = omega (arith, length-enumerate_from 0 xs) in
    let place : 0 + k ≡ k = omega arith in
    let at : get_or numbered k (k, x) ≡ (k, x) = get_or-enumerate_from 0 xs k (k, x) inside ∙ (λ i. (place i, sym is i)) in
    ap (flat_map f) (take_more numbered k (k, x) within)
    ∙ flat_map-append f (take k numbered) (get_or numbered k (k, x) ∷ [])
    ∙ ap (λ ys. flat_map f (take k numbered) ++ ys) (append-nil (f (get_or numbered k (k, x))) ∙ ap f at)

-- of what there is of one member
lone : {X Y : Type 0} (f : X → Option Y) (x : X) → filter_map f (x ∷ []) ≡ option_to_list (f x)
lone f x = elim (f x) as (λ o. cons_option o [] ≡ option_to_list o) [ None ↦ refl | Some y ↦ refl ]

-- of what there is of numbered members
pub numbered-found : {X Y : Type 0} (f : ℕ × X → Option Y) (xs : List X) (k : ℕ) (x : X) → k < length xs → x ≡ get_or xs k x → filter_map f (take (k + 1) (enumerate_from 0 xs)) ≡ filter_map f (take k (enumerate_from 0 xs)) ++ option_to_list (f (k, x))
numbered-found f xs k x inside is =
    let numbered = enumerate_from 0 xs in
    let within : k < length numbered = omega (arith, length-enumerate_from 0 xs) in
    let place : 0 + k ≡ k = omega arith in
    let at : get_or numbered k (k, x) ≡ (k, x) = get_or-enumerate_from 0 xs k (k, x) inside ∙ (λ i. (place i, sym is i)) in
    ap (filter_map f) (take_more numbered k (k, x) within)
    ∙ filter_map-append f (take k numbered) (get_or numbered k (k, x) ∷ [])
    ∙ ap (λ y. filter_map f (take k numbered) ++ filter_map f (y ∷ [])) at
    ∙ ap (λ ys. filter_map f (take k numbered) ++ ys) (lone f (k, x))

-- of pairs of members
pub zip-more : {X Y : Type 0} (xs : List X) (ys : List Y) (x : X) (y : Y) → length ys ≡ length xs → zip (xs ++ x ∷ []) (ys ++ y ∷ []) ≡ zip xs ys ++ (x, y) ∷ []
zip-more [] [] x y same = refl
zip-more [] (b ∷ ys) x y same = absurd (omega arith)
zip-more (a ∷ xs) [] x y same = absurd (omega arith)
zip-more (a ∷ xs) (b ∷ ys) x y same = ap (λ zs. (a, b) ∷ zs) (zip-more xs ys x y (omega arith))

-- what holds of each pair of members so far and of the next pair, holds of each pair
pub zip-next : {X Y : Type 0} (P : X × Y → Type 0) (xs : List X) (ys zs : List Y) (i : ℕ) (x : X) (y : Y) → i < length xs → x ≡ get_or xs i x → length ys ≡ i → zs ≡ ys ++ y ∷ [] → All P (zip (take i xs) ys) → P (x, y) → All P (zip (take (i + 1) xs) zs)
zip-next P xs ys zs i x y inside is count grown before this =
    let same : length ys ≡ length (take i xs) = omega (arith, length-take i xs) in
    let next : zip (take (i + 1) xs) zs ≡ zip (take i xs) ys ++ (x, y) ∷ [] =
    (λ j. zip (take_more xs i x inside j) (grown j))
    ∙ ap (λ z. zip (take i xs ++ z ∷ []) (ys ++ y ∷ [])) (sym is)
    ∙ zip-more (take i xs) ys x y same in
    subst (All P) (sym next) (All-push P (zip (take i xs) ys) (x, y) before this)
