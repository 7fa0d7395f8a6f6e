-- Which names a field may have: those that formulas don't use for something else.
use Rattle.std.specs.Prelude.{ℕ, Bool, not, ◌&&◌, List, [], ◌∷◌, codes, is_some}
use Rattle.std.specs.List.{list_any}
use Rattle.std.specs.Str.{bytes_eq}
use Rattle.cpl_base.specs.Words.{is_name, rest_behind}

-- the names that formulas use for something else
abbrev pub reserved_names : List (List ℕ)
reserved_names =
    codes "i" ∷ codes "j" ∷ codes "s" ∷ codes "nx" ∷ codes "ny" ∷ codes "year" ∷ codes "month" ∷ codes "day"
    ∷ codes "hour" ∷ codes "minute" ∷ codes "second" ∷ codes "days" ∷ codes "daysec" ∷ codes "dt" ∷ codes "min"
    ∷ codes "max" ∷ codes "abs" ∷ codes "sel" ∷ codes "call" ∷ []

-- a name that isn't reserved and doesn't begin with `ring_`, which is for alarms
abbrev pub is_field_name : List ℕ → Bool
is_field_name word =
    is_name word && not (list_any (λ name. bytes_eq name word) reserved_names) && not (is_some (rest_behind (codes "ring_") word))
