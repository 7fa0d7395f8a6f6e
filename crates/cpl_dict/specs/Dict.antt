-- A dictionary of fields: names with their units, and which names stand for one another.
use Rattle.std.specs.Prelude.{ℕ, Bool, not, ◌&&◌, if◌then◌else◌, List, [], ◌∷◌, ◌++◌, Option, is_some, Result, Ok, Err}
use Rattle.std.specs.List.{list_all, list_any}
use Rattle.std.specs.Map.{lookup}
use Rattle.std.specs.Option.{option_eq}
use Rattle.std.specs.Str.{bytes_eq}
use Rattle.cpl_dict.specs.declared.fault.DictFault.{DictFault}
use Rattle.cpl_dict.specs.declared.fault.DictFault.TheVariants.{NameTwice, NameUnknown, UnitsDiffer}

-- The names with their units, in the order in which they were added; and for each synonym call the names that it gave.
pub record Dictionary : Type 0 where
  pub names : List (List ℕ × List ℕ)
  pub calls : List (List (List ℕ))

-- the units of a name, if it is there
abbrev pub units_of : Dictionary → List ℕ → Option (List ℕ)
units_of d name = lookup (bytes_eq name) d.names

-- the name is there
abbrev pub is_known : Dictionary → List ℕ → Bool
is_known d name = is_some (units_of d name)

-- the name is among these
abbrev pub is_among : List (List ℕ) → List ℕ → Bool
is_among names name = list_any (bytes_eq name) names

-- some synonym call gave both names
abbrev pub are_synonyms : Dictionary → List ℕ → List ℕ → Bool
are_synonyms d a b = list_any (λ call. is_among call a && is_among call b) d.calls

-- how well two names match: 2 where they are equal, else 1 where they are synonyms, else 0
abbrev pub bond_of : Dictionary → List ℕ → List ℕ → ℕ
bond_of d a b = if bytes_eq a b then 2 else if are_synonyms d a b then 1 else 0

-- the dictionary with one more name, or why there is none
abbrev pub with_name : Dictionary → List ℕ → List ℕ → Result Dictionary DictFault
with_name d name units =
    if is_known d name then Err NameTwice else Ok (record { names = d.names ++ (name, units) ∷ []; calls = d.calls })

-- two names have equal units
abbrev pub same_units : Dictionary → List ℕ → List ℕ → Bool
same_units d a b = option_eq bytes_eq (units_of d a) (units_of d b)

-- any two of the names have equal units
abbrev pub units_agree : Dictionary → List (List ℕ) → Bool
units_agree d names = list_all (λ a. list_all (same_units d a) names) names

-- the dictionary with one more synonym call, or why there is none
abbrev pub with_synonyms : Dictionary → List (List ℕ) → Result Dictionary DictFault
with_synonyms d names =
    if not (list_all (is_known d) names) then Err NameUnknown
    else if not (units_agree d names) then Err UnitsDiffer
    else Ok (record { names = d.names; calls = d.calls ++ names ∷ [] })
