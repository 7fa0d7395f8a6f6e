-- Names and synonym calls by their numbers: a name's number is its place in the dictionary, and a call's the number of calls before it.
use Rattle.std.specs.Prelude.{◌≡◌, ℕ, ◌<◌, Bool, ◌==◌, if◌then◌else◌, suc, List, [], ◌∷◌, length, map, Option, Some, None, ◌⊎◌, slice_index_or}
use Rattle.std.specs.List.{filter_map, list_any}
use Rattle.std.specs.Str.{bytes_eq}
use Rattle.cpl_base.specs.Words.{place_of}
use Rattle.cpl_dict.specs.Dict.{Dictionary, bond_of, is_among}

-- the number of a name, if it is there
abbrev pub number_of : Dictionary → List ℕ → Option ℕ
number_of d name = place_of (map (λ entry. entry.0) d.names) name

-- the name at a place
abbrev pub name_at : List (List ℕ × List ℕ) → ℕ → List ℕ
name_at names place = (slice_index_or names place ([], [])).0

-- the name of a number
abbrev pub name_of : Dictionary → ℕ → List ℕ
name_of d number = name_at d.names number

-- the places, counted from n on, of the members that pass a test
abbrev pub places_from : {G : Type 0} → ℕ → (G → Bool) → List G → List ℕ
places_from n test [] = []
places_from n test (member ∷ members) =
    if test member then n ∷ places_from (suc n) test members else places_from (suc n) test members

-- the numbers of the synonym calls that gave the name of that number, ascending
abbrev pub calls_of : Dictionary → ℕ → List ℕ
calls_of d number = places_from 0 (λ call. is_among call (name_of d number)) d.calls

-- the numbers of the names that the call of that number gave, in its order
abbrev pub call_names_of : Dictionary → ℕ → List ℕ
call_names_of d call = filter_map (number_of d) (slice_index_or d.calls call [])

-- the number is among these
abbrev pub has_number : List ℕ → ℕ → Bool
has_number numbers number = list_any (λ n. n == number) numbers

-- two lists have a number in common
abbrev pub have_common : List ℕ → List ℕ → Bool
have_common xs ys = list_any (has_number ys) xs

-- how well the names of two numbers match: 2 where they are equal, else 1 where one call gave both, else 0
abbrev pub bond_between : Dictionary → ℕ → ℕ → ℕ
bond_between d m n = if m == n then 2 else if have_common (calls_of d m) (calls_of d n) then 1 else 0

-- Names and bonds by numbers.
pub record IsNumbered (d : Dictionary) : Type 0 where
  -- a number is that of its name, and a name that of its number
  pub number : (n : ℕ) → n < length d.names → number_of d (name_of d n) ≡ Some n
  pub name : (name : List ℕ) (n : ℕ) → number_of d name ≡ Some n → name_of d n ≡ name
  -- names that are there match as their numbers do
  pub bond : (a b : List ℕ) (m n : ℕ) → number_of d a ≡ Some m → number_of d b ≡ Some n → bond_of d a b ≡ bond_between d m n
  -- where one of two names isn't there, they match if they are equal, and only then
  pub unknown : (a b : List ℕ) → (number_of d a ≡ None) ⊎ (number_of d b ≡ None) → bond_of d a b ≡ (if bytes_eq a b then 2 else 0)
  -- a call is among those of a name exactly where the name is among those of the call
  pub both_ways : (n call : ℕ) → n < length d.names → call < length d.calls → has_number (calls_of d n) call ≡ has_number (call_names_of d call) n
  -- two names have a call in common exactly where a call of the first gave the second
  pub common : (m n : ℕ) → m < length d.names → n < length d.names → have_common (calls_of d m) (calls_of d n) ≡ list_any (λ call. has_number (call_names_of d call) n) (calls_of d m)
