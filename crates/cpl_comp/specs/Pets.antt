-- The kind of a component, and on which PETs it lives.
use Rattle.std.specs.Prelude.{ℕ, ◌+◌, ◌-◌, ◌≤◌, ◌&&◌, if◌then◌else◌, nat_le, List, [], ◌∷◌, codes, Option, Some, None, option_and_then, Result, Ok}
use Rattle.std.specs.Option.{ok_or}
use Rattle.std.specs.Str.{bytes_eq}
use Rattle.cpl_base.specs.Numerals.{number_word}
use Rattle.cpl_base.specs.ResultChain.{◌>>=◌, ok_if}
use Rattle.cpl_config.specs.declared.row.Row.{Row}
use Rattle.cpl_comp.specs.declared.component.Kind.{Kind}
use Rattle.cpl_comp.specs.declared.component.Kind.TheVariants.{Model, Mediator}
use Rattle.cpl_comp.specs.declared.fault.CompFault.{CompFault}
use Rattle.cpl_comp.specs.declared.fault.CompFault.TheVariants.{BadValue, PetOutOfRange}

-- the kind that a word names
abbrev pub kind_word : List ℕ → Option Kind
kind_word word =
    if bytes_eq word (codes "model") then Some Model else if bytes_eq word (codes "mediator") then Some Mediator else None

-- the kind that the one word names
abbrev pub kind_words : List (List ℕ) → Option Kind
kind_words (word ∷ []) = kind_word word
kind_words words = None

-- the kind of a component; a model, where none is given
abbrev pub kind_in : Option Row → Result Kind CompFault
kind_in None = Ok Model
kind_in (Some row) = ok_or (kind_words row.words) (BadValue row.line)

-- two numbers
abbrev pub number_pair : List (List ℕ) → Option (ℕ × ℕ)
number_pair (first ∷ second ∷ []) =
    option_and_then (λ m. option_and_then (λ n. Some (m, n)) (number_word second)) (number_word first)
number_pair words = None

-- the least and the greatest of a component's PETs, where they are given
abbrev pub bounds_in : Option Row → Result (Option (ℕ × ℕ)) CompFault
bounds_in None = Ok None
bounds_in (Some row) =
    ok_or (number_pair row.words) (BadValue row.line) >>= (λ bounds.
    ok_if (nat_le bounds.0 bounds.1 && nat_le bounds.1 63) (PetOutOfRange row.line) >>= (λ _.
    Ok (Some bounds)))

-- Bounds of PETs that can be.
pub record AreBounds (bounds : ℕ × ℕ) : Type 0 where
  pub ordered : bounds.0 ≤ bounds.1
  pub most : bounds.1 ≤ 63

-- the first of a component's PETs: the lower bound, or the first of all
abbrev pub first_pet_in : Option (ℕ × ℕ) → ℕ
first_pet_in None = 0
first_pet_in (Some bounds) = bounds.0

-- how many PETs a component has, of so many in all
abbrev pub pet_count_in : Option (ℕ × ℕ) → ℕ → ℕ
pet_count_in None pets = pets
pet_count_in (Some bounds) pets = bounds.1 - bounds.0 + 1
