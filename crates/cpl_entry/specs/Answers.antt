-- What a closure must answer to stand for a formula.
use Rattle.std.specs.Prelude.{◌≡◌, ℕ, ℤ, List, length}
use Rattle.std.specs.Borrow.{Bor}
use Rattle.std.specs.List.{All}
use Rattle.cpl_base.specs.Numbers.{IsValue}
use Rattle.cpl_formula.specs.Tree.{value_of}
use Rattle.cpl_formula.specs.declared.formula.Formula.{Formula}

-- A call that may be made at each list of so many values, and whose answer there is the formula's value. `pre` says where
-- the call may be made, and `post` what it may answer.
pub record AnswersFormula (pre : Bor (List ℤ) → Type 0) (post : Bor (List ℤ) → ℤ → Type 0) (inputs : ℕ) (formula : Formula) : Type 0 where
  pub callable : (list : Bor (List ℤ)) → length list.now ≡ inputs → All IsValue list.now → pre list
  pub answers : (list : Bor (List ℤ)) (answer : ℤ) → length list.now ≡ inputs → All IsValue list.now → post list answer → answer ≡ value_of list.now formula
