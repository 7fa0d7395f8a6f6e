-- The options of a link.
use Rattle.std.specs.Prelude.{ℕ, ℤ, pos, Bool, false, ◌==◌, if◌then◌else◌, List, [], ◌∷◌, fold, codes, Option, Some, None, Result, Ok}
use Rattle.std.specs.List.{list_all, slice_split}
use Rattle.std.specs.Option.{ok_or}
use Rattle.std.specs.Str.{str_eq_ignore_ascii_case}
use Rattle.cpl_base.specs.Numerals.{cut_at, signed_number_word}
use Rattle.cpl_base.specs.ResultChain.{◌>>=◌, ok_if}
use Rattle.cpl_runseq.specs.declared.fault.SeqFault.{SeqFault}
use Rattle.cpl_runseq.specs.declared.fault.SeqFault.TheVariants.{BadElement, MethodUnsupported}
use Rattle.cpl_sequence.specs.declared.link_line.Method.{Method}
use Rattle.cpl_sequence.specs.declared.link_line.Method.TheVariants.{Redist, Weights}

-- the values of the options that have an effect, where they are given
pub record OptionTexts : Type 0 where
  pub method : Option (List ℕ)
  pub file : Option (List ℕ)
  pub terms : Option (List ℕ)

-- no option
abbrev pub no_options : OptionTexts
no_options = record { method = None; file = None; terms = None }

-- one option more, by its name without regard to case; the last of a name counts
abbrev pub with_option : OptionTexts → List ℕ → List ℕ → OptionTexts
with_option so_far name value =
    if str_eq_ignore_ascii_case name (codes "remapMethod") then record so_far { method = Some value }
    else if str_eq_ignore_ascii_case name (codes "weightFile") then record so_far { file = Some value }
    else if str_eq_ignore_ascii_case name (codes "srcTermProcessing") then record so_far { terms = Some value }
    else so_far

-- one piece more; without `=` it has no effect
abbrev pub with_halves : OptionTexts → Option (List ℕ × List ℕ) → OptionTexts
with_halves so_far None = so_far
with_halves so_far (Some halves) = with_option so_far halves.0 halves.1

-- the pieces of a word, between its colons
abbrev pub with_word : OptionTexts → List ℕ → OptionTexts
with_word so_far word = fold (λ texts piece. with_halves texts (cut_at 61 piece)) so_far (slice_split (λ c. c == 58) word)

-- the options of words
abbrev pub option_texts : List (List ℕ) → OptionTexts
option_texts words = fold with_word no_options words

-- whether a word begins with a colon
abbrev pub begins_with_colon : List ℕ → Bool
begins_with_colon [] = false
begins_with_colon (c ∷ cs) = c == 58

-- how values go over: the method, the file of weights (empty without them), and the number of terms
pub record Transfer : Type 0 where
  pub method : Method
  pub file : List ℕ
  pub terms : ℤ

-- the method that is named, if it is known; `redist` where none is named
abbrev pub method_in : Option (List ℕ) → Option Method
method_in None = Some Redist
method_in (Some name) =
    if str_eq_ignore_ascii_case name (codes "redist") then Some Redist
    else if str_eq_ignore_ascii_case name (codes "weights") then Some Weights
    else None

-- the number of terms, 0 where none is given
abbrev pub terms_in : Option (List ℕ) → Option ℤ
terms_in None = Some (pos 0)
terms_in (Some text) = signed_number_word text

-- the name of the file of weights, which only `weights` has, and must have
abbrev pub file_in : Method → Option (List ℕ) → Option (List ℕ)
file_in Redist file = Some []
file_in Weights None = None
file_in Weights (Some []) = None
file_in Weights (Some (c ∷ cs)) = Some (c ∷ cs)

-- how values go over by these options
abbrev pub transfer_by : ℕ → OptionTexts → Result Transfer SeqFault
transfer_by line texts =
    ok_or (method_in texts.method) (MethodUnsupported line) >>= (λ method.
    ok_or (terms_in texts.terms) (BadElement line) >>= (λ terms.
    ok_or (file_in method texts.file) (BadElement line) >>= (λ file.
    Ok (record { method = method; file = file; terms = terms }))))

-- how values go over by the words behind a link, each of which begins with a colon
abbrev pub transfer_of : ℕ → List (List ℕ) → Result Transfer SeqFault
transfer_of line words = ok_if (list_all begins_with_colon words) (BadElement line) >>= (λ _. transfer_by line (option_texts words))
