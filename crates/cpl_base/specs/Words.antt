-- Words of a text: how they are cut, what they are made of, and where one stands among others.
use Rattle.std.specs.Prelude.{ℕ, Bool, false, true, ◌&&◌, ◌||◌, ◌==◌, if◌then◌else◌, nat_le, List, [], ◌∷◌, ◌++◌, length, filter, map, position, Option, Some, None, is_none}
use Rattle.std.specs.Borrow.{Bor}
use Rattle.std.specs.List.{list_all, list_any, slice_split}
use Rattle.std.specs.Str.{bytes_eq}

-- a space or a tab
abbrev pub is_blank : ℕ → Bool
is_blank c = c == 32 || c == 9

-- whether a list has a member
abbrev pub is_some_of : {A : Type 0} → List A → Bool
is_some_of [] = false
is_some_of (x ∷ xs) = true

-- what stands between blanks, where that is anything
abbrev pub words_of : List ℕ → List (List ℕ)
words_of text = filter is_some_of (slice_split is_blank text)

-- the texts that references point to
abbrev pub texts : List (Bor (List ℕ)) → List (List ℕ)
texts words = map (λ word. word.now) words

-- what stands in a text behind a beginning, if it begins so
abbrev pub rest_behind : List ℕ → List ℕ → Option (List ℕ)
rest_behind [] text = Some text
rest_behind (c ∷ cs) [] = None
rest_behind (c ∷ cs) (d ∷ ds) = if c == d then rest_behind cs ds else None

-- ---- names

-- a byte from `0` to `9`
abbrev pub is_digit : ℕ → Bool
is_digit c = nat_le 48 c && nat_le c 57

-- an ASCII letter
abbrev pub is_letter : ℕ → Bool
is_letter c = (nat_le 65 c && nat_le c 90) || (nat_le 97 c && nat_le c 122)

-- a letter, a digit or `_`
abbrev pub is_name_byte : ℕ → Bool
is_name_byte c = is_letter c || is_digit c || c == 95

-- a letter, then letters, digits and `_`, of at most 32 bytes
abbrev pub is_name : List ℕ → Bool
is_name [] = false
is_name (c ∷ cs) = is_letter c && list_all is_name_byte cs && nat_le (length cs) 31

-- ---- a text among others

-- the place of the first text that is this one
abbrev pub place_of : List (List ℕ) → List ℕ → Option ℕ
place_of among text = position (λ other. bytes_eq other text) among

-- the place of the first text that stood before, where these stand in front
abbrev pub repeat_behind : List (List ℕ) → List (List ℕ) → Option ℕ
repeat_behind before [] = None
repeat_behind before (text ∷ more) =
    if list_any (λ other. bytes_eq other text) before then Some (length before)
    else repeat_behind (before ++ text ∷ []) more

-- the place of the first text that stood before
abbrev pub first_repeat : List (List ℕ) → Option ℕ
first_repeat among = repeat_behind [] among

-- no text stands twice
abbrev pub are_distinct : List (List ℕ) → Bool
are_distinct among = is_none (first_repeat among)
