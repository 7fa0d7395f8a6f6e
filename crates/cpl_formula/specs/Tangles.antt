-- What no text may have anywhere, said of its parts.
use Rattle.std.specs.Prelude.{◌≡◌, ℕ, ◌<◌, ◌⊎◌, ◌==◌, Bool, true, ◌||◌, List, ◌++◌, filter, fold, length}
use Rattle.std.specs.List.{list_all}
use Rattle.cpl_base.specs.Words.{is_blank}
use Rattle.cpl_formula.specs.Tokens.{open_after}

-- how many `(` are open at the end of a text
abbrev pub open_in : List ℕ → ℕ
open_in text = fold open_after 0 text

-- more than 32 `(` are open somewhere in the text
pub record IsOpenDeep (text : List ℕ) : Type 0 where
  pub before : List ℕ
  pub after : List ℕ
  pub parted : text ≡ before ++ after
  pub deep : 32 < open_in before

-- a byte of a row of minus signs
abbrev pub is_of_row : ℕ → Bool
is_of_row c = c == 45 || is_blank c

-- how many minus signs a text has
abbrev pub minuses : List ℕ → ℕ
minuses text = length (filter (λ c. c == 45) text)

-- more than 32 minus signs stand in a row somewhere, blanks between them or not
pub record HasLongRow (text : List ℕ) : Type 0 where
  pub before : List ℕ
  pub row : List ℕ
  pub after : List ℕ
  pub parted : text ≡ before ++ (row ++ after)
  pub of_row : list_all is_of_row row ≡ true
  pub long : 32 < minuses row

-- the text has one of the two
abbrev pub Tangles : List ℕ → Type 0
Tangles text = IsOpenDeep text ⊎ HasLongRow text
