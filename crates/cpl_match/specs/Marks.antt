-- The code's own: names marked with the ports whose names share a synonym call with them.
use Rattle.std.specs.Prelude.{◌≡◌, ℕ, ◌+◌, ◌<◌, Bool, false, ◌&&◌, ◌==◌, List, Option, Some, None, length, slice_index, slice_index_or}
use Rattle.std.specs.Int.{bit_at}
use Rattle.std.specs.List.{list_any, range_with_len}
use Rattle.cpl_dict.specs.Dict.{Dictionary}
use Rattle.cpl_dict.specs.Numbers.{call_names_of, calls_of, has_number, have_common}
use Rattle.cpl_match.specs.declared.marks.Marks.{Marks}

-- a word has a bit
unfoldable pub is_set : ℕ → ℕ → Bool
is_set word bit = bit_at word bit == 1

-- the word at a place has a bit
abbrev pub has_bit : List ℕ → ℕ → ℕ → Bool
has_bit words place bit = is_set (slice_index words place) bit

-- the number of a port's name, if the port is there and the dictionary has its name
abbrev pub number_at : List (Option ℕ) → ℕ → Option ℕ
number_at numbers place = slice_index_or numbers place None

-- each number that is there is below this
abbrev pub AreBelow : ℕ → List (Option ℕ) → Type 0
AreBelow count numbers = (place number : ℕ) → number_at numbers place ≡ Some number → number < count

-- whether a number is that of a name
abbrev pub is_name : Option ℕ → ℕ → Bool
is_name None name = false
is_name (Some number) name = name == number

-- the port at a place has the name of this number
abbrev pub is_named : List (Option ℕ) → ℕ → ℕ → Bool
is_named numbers place name = is_name (number_at numbers place) name

-- one of the first calls gave the name and one that some word has the bit of
abbrev pub shares_call : Dictionary → List ℕ → ℕ → ℕ → ℕ → Bool
shares_call d own count name bit =
    list_any (λ call. has_number (call_names_of d call) name && list_any (λ other. has_bit own other bit) (call_names_of d call)) (range_with_len 0 count)

-- The marks are those of 64 ports: each name has the bits of the ports whose name shares a synonym call with it.
pub record IsMarked (d : Dictionary) (numbers : List (Option ℕ)) (marks : Marks) : Type 0 where
  pub own : length marks.own.items ≡ length d.names
  pub shared : length marks.shared.items ≡ length d.names
  pub marked : (name bit number : ℕ) → name < length d.names → bit < 64 → number_at numbers (marks.first + bit) ≡ Some number
      → has_bit marks.shared.items name bit ≡ have_common (calls_of d name) (calls_of d number)
