-- The definitions of entries and books, evaluated on examples.
use Rattle.std.specs.Prelude.{◌≡◌, ℕ, ◌*◌, ℤ, pos, neg_ℤ, List, [], ◌∷◌, codes, Some, None, Ok, Err}
use Rattle.cpl_base.specs.Numbers.{million}
use Rattle.cpl_formula.specs.declared.formula.Formula.{Formula, roll-Formula}
use Rattle.cpl_formula.specs.declared.formula.Formula.TheOpen as tree
use Rattle.cpl_entry.specs.Entries.{NativeEntry, book_of, entry_for, inputs_at, value_at}
use Rattle.cpl_entry.specs.declared.fault.EntryFault.TheVariants as fault

-- an input
abbrev pub input : ℕ → Formula
input k = roll-Formula (tree.Input k)

-- so many units
abbrev pub units : ℕ → ℤ
units n = pos (n * million)

-- the first input, and a share of what the second is above it
abbrev pub relax_tree : Formula
relax_tree = roll-Formula (tree.Plus (input 0) (roll-Formula (tree.Times (input 2) (roll-Formula (tree.Less (input 1) (input 0))))))

-- the size of an input
abbrev pub size_tree : Formula
size_tree = roll-Formula (tree.Abs (input 0))

-- two entries
abbrev pub relax : NativeEntry
relax = record { label = codes "relax"; inputs = 3; formula = relax_tree }

abbrev pub size : NativeEntry
size = record { label = codes "size"; inputs = 1; formula = size_tree }

-- a book of them
abbrev pub two_entries : List NativeEntry
two_entries = relax ∷ size ∷ []

-- books that entries make and don't, entries that are found and aren't, and their values
pub record EntryExamples : Type 0 where
  pub no_entries : book_of [] ≡ Ok []
  pub distinct : book_of two_entries ≡ Ok two_entries
  pub twice : book_of (size ∷ relax ∷ size ∷ relax ∷ []) ≡ Err (fault.LabelTwice 2)
  pub at_once : book_of (size ∷ size ∷ []) ≡ Err (fault.LabelTwice 1)
  pub found : entry_for two_entries (codes "relax") 3 ≡ Ok 0
  pub found_second : entry_for two_entries (codes "size") 1 ≡ Ok 1
  pub one_too_few : entry_for two_entries (codes "relax") 2 ≡ Err (fault.InputsDiffer 2 3)
  pub one_too_many : entry_for two_entries (codes "size") 2 ≡ Err (fault.InputsDiffer 2 1)
  pub unknown : entry_for two_entries (codes "rela") 3 ≡ Err fault.EntryUnknown
  pub unknown_anyhow : entry_for two_entries (codes "flux") 9 ≡ Err fault.EntryUnknown
  pub inputs : inputs_at two_entries 0 ≡ Some 3
  pub no_place : inputs_at two_entries 2 ≡ None
  pub relaxed : value_at two_entries 0 (units 0 ∷ units 10 ∷ pos 500000 ∷ []) ≡ Some (units 5)
  pub relaxed_again : value_at two_entries 0 (units 5 ∷ units 10 ∷ pos 500000 ∷ []) ≡ Some (pos 7500000)
  pub of_size : value_at two_entries 1 (neg_ℤ (units 4) ∷ []) ≡ Some (units 4)
