-- What an initial order and the components that wait for one another are, by sets.
use Rattle.std.specs.Prelude.{◌≡◌, ◌↔◌, ⊤, ℕ, ◌<◌, Bool, IsTrue, List, length, take, Some, slice_index, MatchResult}
use Rattle.std.specs.List.Sorted.{IsStrictlyIncreasing}
use Rattle.cpl_init.specs.Orders.{AreNeeds, has_number, initial_order, is_needed, next_of}
use Rattle.cpl_init.specs.declared.fault.InitFault.{InitFault}
use Rattle.cpl_init.specs.declared.fault.InitFault.TheVariants.{Waiting, Memory}
use Rattle.cpl_init.specs.declared.needs.Needs.{Needs}

-- a set of listed components, each of which needs a member of it
pub record IsSelfNeeding (count : ℕ) (needs : List Needs) (set : ℕ → Bool) : Type 0 where
  pub listed : (c : ℕ) → IsTrue (set c) → c < count
  pub needs_member : (c : ℕ) → IsTrue (set c) → (p : ℕ) × IsTrue (set p) × IsTrue (is_needed needs c p)

-- a component is in some such set
abbrev pub IsWaiting : ℕ → List Needs → ℕ → Type 0
IsWaiting count needs c = (set : ℕ → Bool) × IsSelfNeeding count needs set × IsTrue (set c)

-- the components that wait, of which there are some, ascending
pub record IsWaitingSet (count : ℕ) (needs : List Needs) (set : List ℕ) : Type 0 where
  pub ascending : IsStrictlyIncreasing set
  pub some : 0 < length set
  pub members : (c : ℕ) → IsTrue (has_number set c) ↔ IsWaiting count needs c

-- each component stands at one place, where it is the first listed one that doesn't stand before and all whose needed producers do; none waits
pub record IsInitialOrder (count : ℕ) (needs : List Needs) (order : List ℕ) : Type 0 where
  pub size : length order ≡ count
  pub all : (c : ℕ) → c < count → IsTrue (has_number order c)
  pub places : (k : ℕ) → k < count → next_of count needs (take k order) ≡ Some (slice_index order k)
  pub none_waits : (c : ℕ) → ¬ IsWaiting count needs c

-- the fault has the components that wait; want of memory needs no cause
abbrev pub IsWaitingFault : ℕ → List Needs → InitFault → Type 0
IsWaitingFault count needs (Waiting components) = IsWaitingSet count needs components
IsWaitingFault count needs Memory = ⊤

-- there is an order only where none waits, and else it is the components that wait
abbrev pub OrderLaws : Type 0
OrderLaws =
    (count : ℕ) (needs : List Needs) → AreNeeds count needs → MatchResult (initial_order count needs) (IsInitialOrder count needs) (IsWaitingSet count needs)
