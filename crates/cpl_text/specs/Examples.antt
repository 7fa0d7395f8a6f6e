-- The definitions of lines and words, evaluated on small texts.
use Rattle.std.specs.Prelude.{◌≡◌, ℕ, List, [], ◌∷◌, ◌++◌, codes, map, Some, None}
use Rattle.cpl_text.specs.Lines.{TextLine, faulty_line, lines_of}

-- the number of a line, and the texts of its words
abbrev pub line_texts : TextLine → ℕ × List (List ℕ)
line_texts line = (line.number, map (λ word. word.text) line.words)

-- the numbers of the lines with words, and the texts of these
abbrev pub texts_of : List ℕ → List (ℕ × List (List ℕ))
texts_of bytes = map line_texts (lines_of bytes)

-- the ends of a line's words
abbrev pub line_spans : TextLine → List (ℕ × ℕ)
line_spans line = map (λ word. (word.start, word.«end»)) line.words

-- the ends of the words, line by line
abbrev pub spans_of : List ℕ → List (List (ℕ × ℕ))
spans_of bytes = map line_spans (lines_of bytes)

-- texts with their lines and words, and with the first line that is refused
pub record TextExamples : Type 0 where
  pub empty : texts_of [] ≡ []
  pub two_words : texts_of (codes "ab  c\n") ≡ (1, codes "ab" ∷ codes "c" ∷ []) ∷ []
  pub two_spans : spans_of (codes "ab  c\n") ≡ ((0, 2) ∷ (4, 5) ∷ []) ∷ []
  pub no_last_feed : texts_of (codes "a\nb") ≡ (1, codes "a" ∷ []) ∷ (2, codes "b" ∷ []) ∷ []
  pub spans_below : spans_of (codes "a\nbc") ≡ ((0, 1) ∷ []) ∷ ((2, 4) ∷ []) ∷ []
  pub blank_lines_count : texts_of (codes " \n\n\t\na") ≡ (4, codes "a" ∷ []) ∷ []
  pub tabs : texts_of (codes "\ta\tb\t") ≡ (1, codes "a" ∷ codes "b" ∷ []) ∷ []
  pub carriage_returns : texts_of (codes "a b\r\nc\r\n") ≡ (1, codes "a" ∷ codes "b" ∷ []) ∷ (2, codes "c" ∷ []) ∷ []
  pub return_at_the_end : texts_of (codes "a\r") ≡ (1, codes "a" ∷ []) ∷ []
  pub comment_in_a_word : texts_of (codes "a b#c d\ne") ≡ (1, codes "a" ∷ codes "b" ∷ []) ∷ (2, codes "e" ∷ []) ∷ []
  pub comment_alone : texts_of (codes "# a\nb # c") ≡ (2, codes "b" ∷ []) ∷ []
  pub return_within : faulty_line (codes "a\nb\rc\n") ≡ Some 2
  pub two_returns : faulty_line (codes "a\r\r\n") ≡ Some 1
  pub return_in_a_comment : faulty_line (codes "a # b\rc\n") ≡ None
  pub high_byte : faulty_line (codes "x\ny = 0" ++ 233 ∷ codes "\n") ≡ Some 2
  pub high_byte_in_a_comment : faulty_line (codes "x\ny = 0 # " ++ 233 ∷ codes "\n") ≡ None
  pub first_of_two : faulty_line (codes "x\n" ++ 1 ∷ codes "\ny\n" ++ 2 ∷ []) ≡ Some 2
  pub delete : faulty_line (127 ∷ []) ≡ Some 1
  pub tilde_tab_space : faulty_line (126 ∷ 9 ∷ 32 ∷ []) ≡ None
  pub below_space : faulty_line (31 ∷ []) ≡ Some 1
