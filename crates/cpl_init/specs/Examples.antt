-- The definitions of orders and of components that wait, evaluated on examples.
use Rattle.std.specs.Prelude.{◌≡◌, ℕ, true, false, List, [], ◌∷◌, Some, None, Ok, Err}
use Rattle.cpl_init.specs.Orders.{has_number, initial_order, is_needed, is_ready, next_of}
use Rattle.cpl_init.specs.declared.needs.Needs.{Needs}

-- a row: the component needs the producer
abbrev pub row : ℕ → ℕ → Needs
row component producer = record { component = component; producer = producer }

-- two that need each other, and a third that needs one of them
abbrev pub ring_and_tail : List Needs
ring_and_tail = row 0 1 ∷ row 1 0 ∷ row 2 0 ∷ []

-- the first needs two others, and both need the last
abbrev pub diamond : List Needs
diamond = row 0 1 ∷ row 0 2 ∷ row 1 3 ∷ row 2 3 ∷ []

-- a component before two that need each other, and one behind them
abbrev pub ring_between : List Needs
ring_between = row 0 1 ∷ row 1 2 ∷ row 2 1 ∷ row 2 3 ∷ []

-- what rows say, which component comes next, orders, and components that wait
pub record InitExamples : Type 0 where
  pub needed : is_needed ring_and_tail 2 0 ≡ true
  pub not_needed : is_needed ring_and_tail 0 2 ≡ false
  pub has : has_number (3 ∷ 1 ∷ []) 1 ≡ true
  pub has_not : has_number (3 ∷ 1 ∷ []) 2 ≡ false
  pub ready : is_ready diamond (3 ∷ []) 2 ≡ true
  pub half_ready : is_ready diamond (3 ∷ 1 ∷ []) 0 ≡ false
  pub first_ready : next_of 4 diamond (3 ∷ []) ≡ Some 1
  pub none_ready : next_of 4 ring_and_tail (3 ∷ []) ≡ None
  pub all_placed : next_of 2 [] (0 ∷ 1 ∷ []) ≡ None
  pub no_components : initial_order 0 [] ≡ Ok []
  pub no_needs : initial_order 3 [] ≡ Ok (0 ∷ 1 ∷ 2 ∷ [])
  pub producer_first : initial_order 2 (row 0 1 ∷ []) ≡ Ok (1 ∷ 0 ∷ [])
  pub row_again : initial_order 2 (row 0 1 ∷ row 0 1 ∷ []) ≡ Ok (1 ∷ 0 ∷ [])
  pub from_the_first_again : initial_order 4 (row 0 1 ∷ []) ≡ Ok (1 ∷ 0 ∷ 2 ∷ 3 ∷ [])
  pub chain_as_listed : initial_order 3 (row 1 0 ∷ row 2 1 ∷ []) ≡ Ok (0 ∷ 1 ∷ 2 ∷ [])
  pub chain_turned : initial_order 4 (row 0 1 ∷ row 1 2 ∷ row 2 3 ∷ []) ≡ Ok (3 ∷ 2 ∷ 1 ∷ 0 ∷ [])
  pub both_of_diamond : initial_order 4 diamond ≡ Ok (3 ∷ 1 ∷ 2 ∷ 0 ∷ [])
  pub needs_itself : initial_order 1 (row 0 0 ∷ []) ≡ Err (0 ∷ [])
  pub behind_itself : initial_order 3 (row 1 1 ∷ row 0 1 ∷ []) ≡ Err (0 ∷ 1 ∷ [])
  pub ring : initial_order 3 (row 0 1 ∷ row 1 2 ∷ row 2 0 ∷ []) ≡ Err (0 ∷ 1 ∷ 2 ∷ [])
  pub tail_waits : initial_order 4 ring_and_tail ≡ Err (0 ∷ 1 ∷ 2 ∷ [])
  pub before_and_behind : initial_order 5 ring_between ≡ Err (0 ∷ 1 ∷ 2 ∷ [])
  pub two_rings : initial_order 5 (row 0 3 ∷ row 3 0 ∷ row 1 4 ∷ row 4 1 ∷ []) ≡ Err (0 ∷ 1 ∷ 3 ∷ 4 ∷ [])
