-- The code's own: what a dictionary keeps, and what contracts see of it.
use Rattle.std.specs.Prelude.{◌≡◌, ℕ, ◌<◌, ◌≤◌, Bool, false, if◌then◌else◌, suc, List, [], ◌∷◌, ◌++◌, ◌-◌, length, map, nat_eq, All, Some, slice_get, slice_index_or, vec_len}
use Rattle.std.specs.Option.{option_eq}
use Rattle.std.specs.Str.{bytes_eq}
use Rattle.std.specs.Vec.{vec_capacity}
use Rattle.std.specs.declared.alloc.Global.{Global}
use Rattle.std.specs.declared.vec.Vec.{Vec}
use Rattle.cpl_dict.specs.Dict.{Dictionary}
use Rattle.cpl_dict.specs.Numbers.{has_number, name_at, places_from}
use Rattle.cpl_dict.specs.declared.dict.Dict.TheInside.{Inside}

-- the bytes of each name, with its units
abbrev pub names_of : List (Vec ℕ Global × List ℕ) → List (List ℕ × List ℕ)
names_of entries = map (λ e. (e.0.items, e.1)) entries

-- the lists that lie in lists of the code
abbrev pub lists_of : List (Vec ℕ Global) → List (List ℕ)
lists_of vecs = map (λ v. v.items) vecs

-- the names at these places
abbrev pub names_at : List (List ℕ × List ℕ) → List ℕ → List (List ℕ)
names_at names places = map (name_at names) places

-- no two names are equal
abbrev pub AreApart : List (List ℕ × List ℕ) → Type 0
AreApart names = (i j : ℕ) → i < j → j < length names → bytes_eq (name_at names i) (name_at names j) ≡ false

-- These are the places of names that are there.
pub record IsPlacedAs (names : List (List ℕ × List ℕ)) (places : List ℕ) (group : List (List ℕ)) : Type 0 where
  pub placed : All (λ place. place < length names) places
  pub named : names_at names places ≡ group

-- For so many names, each place of a group has a name, and each place's list has the numbers of the groups that have it.
pub record IsKept (count : ℕ) (groups lists : List (List ℕ)) : Type 0 where
  pub counted : length lists ≡ count
  pub placed : All (All (λ place. place < count)) groups
  pub noted : (place : ℕ) → slice_index_or lists place [] ≡ places_from 0 (λ group. has_number group place) groups

-- each number is above the one before it, and the first is n or above
abbrev pub IsAscending : ℕ → List ℕ → Type 0
IsAscending n [] = Unit {0}
IsAscending n (x ∷ xs) = (n ≤ x) × IsAscending (suc x) xs

-- one more number fits with no memory
abbrev pub HasRoom : Vec ℕ Global → Type 0
HasRoom list = vec_len list < vec_capacity list

-- the last of the numbers is this one
abbrev pub ends_with : List ℕ → ℕ → Bool
ends_with numbers number = option_eq nat_eq (slice_get numbers (length numbers - 1)) (Some number)

-- the numbers with one more behind them, where it isn't the last already
abbrev pub with_number : Bool → ℕ → List ℕ → List ℕ
with_number already number numbers = if already then numbers else numbers ++ number ∷ []

-- The lists of these places have one more number, and the others none.
pub record IsNotedAt (places : List ℕ) (number : ℕ) (old new : List (List ℕ)) : Type 0 where
  pub counted : length new ≡ length old
  pub noted : (place : ℕ) → slice_index_or new place []
      ≡ slice_index_or old place [] ++ (if has_number places place then number ∷ [] else [])

-- what contracts see of what is kept
abbrev pub dictionary_of : Inside → Dictionary
dictionary_of a = let names = names_of a.names.entries in
    record { names = names; calls = map (names_at names) (lists_of a.call_names.items) }

-- What is always so.
pub record IsSound (a : Inside) : Type 0 where
  pub apart : AreApart (names_of a.names.entries)
  pub kept : IsKept (length a.names.entries) (lists_of a.call_names.items) (lists_of a.name_calls.items)
