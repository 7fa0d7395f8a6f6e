-- Where the values of an input stand, as those of a formula that is this input.
use Rattle.std.proofs.Common.{◌≡◌, ℕ, ℤ, ◌+◌, ◌<◌, Bool, List, length, get_or, pos, sym, ap, subst, ◌∙◌}
use Rattle.std.proofs.lemmas.List.{get_or-map}
use Rattle.std.proofs.lemmas.Bool.{ltb-true}
use Rattle.std.specs.Bool.{IsTrue}
use Rattle.cpl_formula.specs.declared.formula.Formula.{Formula, roll-Formula}
use Rattle.cpl_formula.specs.declared.formula.Formula.TheOpen.{Input}
use Rattle.cpl_formula.specs.declared.formula.Formula.TheVariants.{Input as InputVariant}
use Rattle.cpl_formula.specs.declared.formula.Formula.TheViews.{rolls-Input}
use Rattle.cpl_formula.specs.declared.formula.Formula.TheFolds.{fold-roll-Formula}
use Rattle.cpl_formula.specs.Tree.{is_over, over_step}
use Rattle.cpl_formula.proofs.ValuesFacts.{value_of-Input}
use Rattle.cpl_sweep.specs.Places.{input_at, inputs_at, value_at}
use Rattle.cpl_sweep.specs.Rows.{Rows, rows_of, rows_step}
use Rattle.cpl_sweep.specs.Strips.{IsOperand}
use Rattle.cpl_sweep.specs.declared.operands.Operand.{Operand}
use Rattle.cpl_sweep.specs.declared.place.Place.{Place}

value_at-Input : (places : List Place) (fields : List (List ℤ)) (i cell : ℕ) (place : Place) → i < length places → input_at fields cell (get_or places i place) ≡ value_at places fields (roll-Formula (Input i)) cell
value_at-Input places fields i cell place inside =
    sym (value_of-Input (inputs_at places fields cell) i ∙ get_or-map (input_at fields cell) places i place (pos 0) inside)

pub IsOperand-Input : (places : List Place) (fields : List (List ℤ)) (i skip own cells : ℕ) (place : Place) (operand : Operand) → i < length places → IsOperand (λ k. input_at fields (skip + k) (get_or places i place)) own cells operand → IsOperand (λ k. value_at places fields (roll-Formula (Input i)) (skip + k)) own cells operand
IsOperand-Input places fields i skip own cells place operand inside is =
    let P : (ℕ → ℤ) → Type 0 = λ value. IsOperand value own cells operand in
    subst P (λ j k. value_at-Input places fields i (skip + k) place inside j) is

-- an input of a formula is among its inputs
pub within-Input : (count i : ℕ) → IsTrue (is_over count (roll-Formula (Input i))) → i < count
within-Input count i over = ltb-true i count (sym (fold-roll-Formula Bool (over_step count) (Input i)) ∙ over)

-- a formula that is an input
tree-Input : (tree : Formula) (i : ℕ) → tree ≡ InputVariant i → tree ≡ roll-Formula (Input i)
tree-Input tree i is = is ∙ sym (rolls-Input i)

-- an input of a formula is among its inputs, and where its values stand
pub within-at : (count i : ℕ) (tree : Formula) → tree ≡ InputVariant i → IsTrue (is_over count tree) → i < count
within-at count i tree is over =
    let P : Formula → Type 0 = λ t. IsTrue (is_over count t) in
    within-Input count i (subst P (tree-Input tree i is) over)

pub IsOperand-at : (places : List Place) (fields : List (List ℤ)) (i skip cells : ℕ) (place : Place) (operand : Operand) (tree : Formula) → tree ≡ InputVariant i → i < length places → IsOperand (λ k. input_at fields (skip + k) (get_or places i place)) 0 cells operand → IsOperand (λ k. value_at places fields tree (skip + k)) (rows_of tree).own cells operand
IsOperand-at places fields i skip cells place operand tree is inside stands =
    let P : Formula → Type 0 = λ t. IsOperand (λ k. value_at places fields t (skip + k)) (rows_of t).own cells operand in
    let own = ap (λ r. r.own) (fold-roll-Formula Rows rows_step (Input i)) in
    let Q : ℕ → Type 0 = λ n. IsOperand (λ k. value_at places fields (roll-Formula (Input i)) (skip + k)) n cells operand in
    subst P (sym (tree-Input tree i is)) (subst Q (sym own) (IsOperand-Input places fields i skip 0 cells place operand inside stands))
