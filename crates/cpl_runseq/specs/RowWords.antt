-- How a row of a run sequence is cut into words: `->` is a word of its own, even where it touches others.
use Rattle.std.specs.Prelude.{ℕ, Bool, true, false, ◌&&◌, ◌==◌, List, [], ◌∷◌, ◌++◌, codes}

-- the arrow between two components
abbrev pub arrow : List ℕ
arrow = codes "->"

-- whether two bytes are an arrow
abbrev pub is_arrow : ℕ → ℕ → Bool
is_arrow c d = c == 45 && d == 62

-- a text as a word, where it has a byte
abbrev pub word_if_any : List ℕ → List (List ℕ)
word_if_any [] = []
word_if_any (c ∷ cs) = (c ∷ cs) ∷ []

-- the words that a text is cut into at its arrows, where these bytes stand before it
abbrev pub arrow_words : List ℕ → List ℕ → List (List ℕ)
arrow_words before [] = word_if_any before
arrow_words before (c ∷ []) = word_if_any (before ++ c ∷ [])
arrow_words before (c ∷ d ∷ rest) = elim (is_arrow c d) [
  | true ↦ word_if_any before ++ arrow ∷ arrow_words [] rest
  | false ↦ arrow_words (before ++ c ∷ []) (d ∷ rest)
]

-- the words of a row
abbrev pub row_words : List (List ℕ) → List (List ℕ)
row_words [] = []
row_words (word ∷ words) = arrow_words [] word ++ row_words words
