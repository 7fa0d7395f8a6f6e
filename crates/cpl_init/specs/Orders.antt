-- The order in which components are initialised: which comes next, behind those before it.
use Rattle.std.specs.Prelude.{ℕ, zero, suc, ◌<◌, ◌==◌, ◌&&◌, ◌||◌, not, Bool, List, [], ◌∷◌, ◌++◌, Option, Result, Ok, Err, filter, find, length, if◌then◌else◌}
use Rattle.std.specs.List.{All, list_all, list_any, range_with_len}
use Rattle.std.specs.Option.{option_map_or}
use Rattle.cpl_init.specs.declared.needs.Needs.{Needs}

-- a row is of listed components, whose numbers are below count
pub record IsListed (count : ℕ) (row : Needs) : Type 0 where
  pub component : row.component < count
  pub producer : row.producer < count

-- every row is
abbrev pub AreNeeds : ℕ → List Needs → Type 0
AreNeeds count needs = All (IsListed count) needs

-- whether some row is this pair
abbrev pub is_needed : List Needs → ℕ → ℕ → Bool
is_needed needs component producer =
    list_any (λ row. row.component == component && row.producer == producer) needs

-- whether a number is among others
abbrev pub has_number : List ℕ → ℕ → Bool
has_number numbers n = list_any (λ k. k == n) numbers

-- whether all producers that a component needs are among those before
abbrev pub is_ready : List Needs → List ℕ → ℕ → Bool
is_ready needs before component =
    list_all (λ row. not (row.component == component) || has_number before row.producer) needs

-- whether a component isn't among those before and is ready
abbrev pub can_follow : List Needs → List ℕ → ℕ → Bool
can_follow needs before component = not (has_number before component) && is_ready needs before component

-- the first listed component that can follow
abbrev pub next_of : ℕ → List Needs → List ℕ → Option ℕ
next_of count needs before = find (can_follow needs before) (range_with_len 0 count)

-- those before, and behind them one after another what comes next, at most fuel of these
abbrev pub order_behind : ℕ → ℕ → List Needs → List ℕ → List ℕ
order_behind zero count needs before = before
order_behind (suc fuel) count needs before =
    option_map_or (λ component. order_behind fuel count needs (before ++ component ∷ [])) (next_of count needs before) before

-- what comes one after another from the start on
abbrev pub complete_order : ℕ → List Needs → List ℕ
complete_order count needs = order_behind count count needs []

-- the listed components that aren't among others, ascending
abbrev pub other_components : ℕ → List ℕ → List ℕ
other_components count numbers = filter (λ component. not (has_number numbers component)) (range_with_len 0 count)

-- the order, where it has all components, else the others
abbrev pub initial_order : ℕ → List Needs → Result (List ℕ) (List ℕ)
initial_order count needs =
    let order = complete_order count needs in
    if length order == count then Ok order else Err (other_components count order)
