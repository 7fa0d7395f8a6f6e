-- Names as they are kept, and as contracts see them.
use Rattle.std.proofs.Common.{◌≡◌, ℕ, ◌+◌, ◌<◌, Bool, true, false, cond, not, nat_lt, List, [], ◌∷◌, ◌++◌, length, get_or, take, map, Option, Some, None, position, Vec, Global, refl, sym, ap, ◌∙◌, is_some}
use Rattle.std.proofs.lemmas.Bool.{false≢true}
use Rattle.std.proofs.lemmas.List.{get_or_default, length-map, map_push, take_more}
use Rattle.std.proofs.lemmas.List.Elements.{All-push}
use Rattle.std.proofs.lemmas.List.Folds.{list_all_at}
use Rattle.std.proofs.lemmas.List.Quantifiers.{position-Some}
use Rattle.std.specs.Cmp.Lexicographic.{same_text}
use Rattle.std.specs.List.{list_all, prefix_len}
use Rattle.std.specs.Map.{keys_of, lookup}
use Rattle.std.specs.Str.{bytes_eq}
use Rattle.cpl_dict.specs.Kept.{IsPlacedAs, names_of}
use Rattle.cpl_dict.specs.Numbers.{name_at}

-- a look-up by the bytes of a key is one by the name
pub lookup-names_of : (q : List ℕ) (es : List (Vec ℕ Global × List ℕ)) → lookup (λ k. bytes_eq q k.items) es ≡ lookup (bytes_eq q) (names_of es)
lookup-names_of q [] = refl
lookup-names_of q (e ∷ es) = ap (λ o. cond (bytes_eq q e.0.items) (Some e.1) o) (lookup-names_of q es)

-- the names are as many as the entries
pub length-names_of : (es : List (Vec ℕ Global × List ℕ)) → length (names_of es) ≡ length es
length-names_of es = length-map {B = List ℕ × List ℕ} es (λ e. (e.0.items, e.1))

-- the place of a name
abbrev pub place_in : List (List ℕ × List ℕ) → List ℕ → Option ℕ
place_in names q = position (λ n. bytes_eq q n.0) names

-- how many of a list that was mapped pass from the front on
prefix_len-map : {X Y : Type 0} (p : Y → Bool) (f : X → Y) (xs : List X) → prefix_len p (map f xs) ≡ prefix_len (λ x. p (f x)) xs
prefix_len-map p f [] = refl
prefix_len-map p f (x ∷ xs) = ap (λ n. cond (p (f x)) (1 + n) 0) (prefix_len-map p f xs)

-- where a list that was mapped first passes
pub position-map : {X Y : Type 0} (p : Y → Bool) (f : X → Y) (xs : List X) → position p (map f xs) ≡ position (λ x. p (f x)) xs
position-map p f xs =
    let n = prefix_len-map (λ y. not (p y)) f xs in
    let l = length-map xs f in λ j. cond (nat_lt (n j) (l j)) (Some (n j)) None

-- the place of a key is that of its name
pub place-names_of : (q : List ℕ) (es : List (Vec ℕ Global × List ℕ)) → position (λ k. bytes_eq q k.items) (keys_of es) ≡ place_in (names_of es) q
place-names_of q es =
    position-map (λ (k : Vec ℕ Global). bytes_eq q k.items) (λ e. e.0) es
    ∙ sym (position-map (λ (n : List ℕ × List ℕ). bytes_eq q n.0) (λ (e : Vec ℕ Global × List ℕ). (e.0.items, e.1)) es)

-- the place of a name has the name
pub named-from_place : (names : List (List ℕ × List ℕ)) (q : List ℕ) (i : ℕ) → place_in names q ≡ Some i → (i < length names) × (name_at names i ≡ q)
named-from_place names q i is =
    let at = position-Some (λ (n : List ℕ × List ℕ). bytes_eq q n.0) names i ([], []) is in
    (at.0, sym (same_text q (name_at names i) (sym at.1)))

-- one more name has its place
pub IsPlacedAs-more : (names : List (List ℕ × List ℕ)) (group : List (List ℕ)) (k i : ℕ) (places : List ℕ) → k < length group → place_in names (get_or group k []) ≡ Some i → IsPlacedAs names places (take k group) → IsPlacedAs names (places ++ i ∷ []) (take (k + 1) group)
IsPlacedAs-more names group k i places inside is h =
    let there = named-from_place names (get_or group k []) i is in
    record {
      placed = All-push (λ place. place < length names) places i h.placed there.0;
      named = map_push (name_at names) places i ∙ (λ j. h.named j ++ there.1 j ∷ []) ∙ sym (take_more group k [] inside);
    }

-- of names that are there, none is found nowhere
pub known-found : (es : List (Vec ℕ Global × List ℕ)) (group : List (List ℕ)) (k : ℕ) (name : List ℕ) → list_all (λ n. is_some (lookup (bytes_eq n) (names_of es))) group ≡ true → k < length group → name ≡ get_or group k name → false ≡ is_some (lookup (λ (v : Vec ℕ Global). bytes_eq name v.items) es) → ⊥
known-found es group k name known inside read missing =
    let gone : is_some (lookup (bytes_eq name) (names_of es)) ≡ false = ap is_some (sym (lookup-names_of name es)) ∙ sym missing in
    let at : is_some (lookup (bytes_eq (get_or group k name)) (names_of es)) ≡ false = ap (λ n. is_some (lookup (bytes_eq n) (names_of es))) (sym read) ∙ gone in
    false≢true (sym (list_all_at (λ n. is_some (lookup (bytes_eq n) (names_of es))) group k name inside at) ∙ known)

-- the name that was read at a place of a list
pub read-at : (group : List (List ℕ)) (k : ℕ) (name : List ℕ) → k < length group → name ≡ get_or group k name → name ≡ get_or group k []
read-at group k name inside read = read ∙ get_or_default group k name [] inside
