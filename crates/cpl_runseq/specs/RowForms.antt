-- What the words of a row say by their form alone.
use Rattle.std.specs.Prelude.{ℕ, Bool, true, not, ◌&&◌, ◌==◌, if◌then◌else◌, List, [], ◌∷◌, codes, Option, Some, None, option_map}
use Rattle.std.specs.Str.{bytes_eq}
use Rattle.cpl_base.specs.Chain.{◌>>=◌}
use Rattle.cpl_base.specs.Numerals.{cut_at, number_between}
use Rattle.cpl_runseq.specs.RowWords.{arrow}

-- what a row says: a loop ends; one begins, with its step (none for `*`) and its duration, if given; a
-- connector runs, with options; a phase runs; or nothing that is known
pub data RowForm : Type 0 where
  close : RowForm
  opening : Option ℕ → Option ℕ → RowForm
  bad_step : RowForm
  link : List ℕ → List ℕ → List (List ℕ) → RowForm
  run : List ℕ → Option (List ℕ) → RowForm
  bad_element : RowForm

-- the step that a text gives; `*` gives none
abbrev pub step_in : List ℕ → Option (Option ℕ)
step_in text = if bytes_eq text (codes "*") then Some None else option_map Some (number_between 1 1000000000 text)

-- a step, or a step and a duration
abbrev pub step_and_duration : List ℕ → Option (List ℕ × List ℕ) → Option (Option ℕ × Option ℕ)
step_and_duration text None = step_in text >>= (λ step. Some (step, None))
step_and_duration text (Some halves) = step_in halves.0 >>= (λ step. number_between 1 1000000000000 halves.1 >>= (λ duration. Some (step, Some duration)))

-- an opening, where its text has the form
abbrev pub opening_form : Option (Option ℕ × Option ℕ) → RowForm
opening_form None = bad_step
opening_form (Some parts) = opening parts.0 parts.1

-- what stands behind the `@` of a row of one word
abbrev pub form_of_loop : List ℕ → RowForm
form_of_loop [] = close
form_of_loop (c ∷ cs) = if c == 64 then bad_element else opening_form (step_and_duration (c ∷ cs) (cut_at 58 (c ∷ cs)))

-- whether a word may name a component that stands first in a row: it isn't the arrow, and has no `@` in front
abbrev pub may_be_first : List ℕ → Bool
may_be_first [] = true
may_be_first (c ∷ cs) = not (c == 64) && not (bytes_eq (c ∷ cs) arrow)

-- a row of one word
abbrev pub form_of_one : List ℕ → RowForm
form_of_one [] = run [] None
form_of_one (c ∷ cs) = if c == 64 then form_of_loop cs else if bytes_eq (c ∷ cs) arrow then bad_element else run (c ∷ cs) None

-- a row of two words
abbrev pub form_of_two : List ℕ → List ℕ → RowForm
form_of_two component phase = if may_be_first component && not (bytes_eq phase arrow) then run component (Some phase) else bad_element

-- a row of three words or more
abbrev pub form_of_link : List ℕ → List ℕ → List ℕ → List (List ℕ) → RowForm
form_of_link src between dst options = if may_be_first src && bytes_eq between arrow && not (bytes_eq dst arrow) then link src dst options else bad_element

-- what the words of a row say
abbrev pub row_form : List (List ℕ) → RowForm
row_form [] = bad_element
row_form (word ∷ []) = form_of_one word
row_form (component ∷ phase ∷ []) = form_of_two component phase
row_form (src ∷ between ∷ dst ∷ options) = form_of_link src between dst options
