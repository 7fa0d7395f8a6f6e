-- Labels as they are kept, and as contracts see them.
use Rattle.std.proofs.Common.{◌≡◌, ℕ, ◌+◌, Bool, true, false, ◌||◌, cond, not, nat_lt, List, [], ◌∷◌, ◌++◌, map, Some, None, position, Vec, Global, refl, sym}
use Rattle.std.proofs.lemmas.List.{length-map, map_push}
use Rattle.std.specs.Cmp.Lexicographic.{nat_list_eq_equiv}
use Rattle.std.specs.List.{list_any, prefix_len}
use Rattle.std.specs.Str.{bytes_eq}
use Rattle.cpl_base.specs.Words.{place_of}
use Rattle.cpl_entry.specs.Kept.{is_there}

-- the labels that vectors hold
abbrev pub held_in : List (Vec ℕ Global) → List (List ℕ)
held_in keys = map (λ (key : Vec ℕ Global). key.items) keys

-- a label is there where a vector holds it
pub is_there-held : (label : List ℕ) (keys : List (Vec ℕ Global)) → list_any (λ (key : Vec ℕ Global). bytes_eq label key.items) keys ≡ is_there (held_in keys) label
is_there-held label [] = refl
is_there-held label (key ∷ keys) =
    let here = nat_list_eq_equiv.symm label key.items in
    let rest = is_there-held label keys in λ j. here j || rest j

-- a vector behind the others, or not, holds the label behind the others, or not
pub held_in-pushed : (keys : List (Vec ℕ Global)) (key : Vec ℕ Global) (there : Bool) → held_in (cond there keys (keys ++ key ∷ [])) ≡ cond there (held_in keys) (held_in keys ++ key.items ∷ [])
held_in-pushed keys key true = refl
held_in-pushed keys key false = map_push (λ (k : Vec ℕ Global). k.items) keys key

-- how many vectors from the front on hold another label
prefix_len-held : (label : List ℕ) (keys : List (Vec ℕ Global)) → prefix_len (λ (key : Vec ℕ Global). not (bytes_eq label key.items)) keys ≡ prefix_len (λ other. not (bytes_eq other label)) (held_in keys)
prefix_len-held label [] = refl
prefix_len-held label (key ∷ keys) =
    let here = nat_list_eq_equiv.symm label key.items in
    let rest = prefix_len-held label keys in λ j. cond (not (here j)) (1 + rest j) 0

-- the place of a label is that of the vector that holds it
pub place_of-held : (label : List ℕ) (keys : List (Vec ℕ Global)) → position (λ (key : Vec ℕ Global). bytes_eq label key.items) keys ≡ place_of (held_in keys) label
place_of-held label keys =
    let n = prefix_len-held label keys in
    let l = sym (length-map keys (λ (key : Vec ℕ Global). key.items)) in λ j. cond (nat_lt (n j) (l j)) (Some (n j)) None
