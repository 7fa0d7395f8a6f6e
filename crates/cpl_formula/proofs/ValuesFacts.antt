-- The value of a formula: one equation for each kind of tree, and that it is a value.
use Rattle.std.proofs.Common.{◌≡◌, ℕ, zero, suc, ℤ, pos, negsuc, neg_ℤ, ◌+ℤ◌, ◌-ℤ◌, unsigned_abs, Bool, true, false, cond, ◌&&◌, List, length, sym, subst, ◌∙◌, arith}
use Rattle.std.specs.Prelude.{◌*ℤ◌, IsTrue, int_lt, slice_index_or}
use Rattle.std.specs.Int.{int_max, int_min}
use Rattle.std.specs.List.{All}
use Rattle.std.proofs.lemmas.Bool.{and_parts, leb-true}
use Rattle.std.proofs.lemmas.Int.{int_max_is, int_min_is, ints}
use Rattle.cpl_base.specs.Numbers.{IsValue, clip, greatest, million}
use Rattle.cpl_base.specs.Rounding.{near_of, product_of, quotient_of}
use Rattle.cpl_formula.specs.Tree.{is_over, over_step, choice_of, value_of, value_step}
use Rattle.cpl_formula.specs.declared.formula.Formula.{Formula, roll-Formula}
use Rattle.cpl_formula.specs.declared.formula.Formula.TheFolds.{fold-roll-Formula, ind-Formula, map-Formula}
use Rattle.cpl_formula.specs.declared.formula.Formula.TheOpen.{Formula-F, Number, Input, Minus, Abs, Plus, Less, Times, Over, Min, Max, Select}

-- ---- one equation for each kind of tree

pub value_of-Number : (inputs : List ℤ) (z : ℤ) → value_of inputs (roll-Formula (Number z)) ≡ z
value_of-Number inputs z = fold-roll-Formula ℤ (value_step inputs) (Number z)

pub value_of-Input : (inputs : List ℤ) (k : ℕ) → value_of inputs (roll-Formula (Input k)) ≡ slice_index_or inputs k (pos 0)
value_of-Input inputs k = fold-roll-Formula ℤ (value_step inputs) (Input k)

pub value_of-Minus : (inputs : List ℤ) (a : Formula) → value_of inputs (roll-Formula (Minus a)) ≡ pos 0 -ℤ value_of inputs a
value_of-Minus inputs a = fold-roll-Formula ℤ (value_step inputs) (Minus a)

pub value_of-Abs : (inputs : List ℤ) (a : Formula) → value_of inputs (roll-Formula (Abs a)) ≡ pos (unsigned_abs (value_of inputs a))
value_of-Abs inputs a = fold-roll-Formula ℤ (value_step inputs) (Abs a)

pub value_of-Plus : (inputs : List ℤ) (a b : Formula) → value_of inputs (roll-Formula (Plus a b)) ≡ clip (value_of inputs a +ℤ value_of inputs b)
value_of-Plus inputs a b = fold-roll-Formula ℤ (value_step inputs) (Plus a b)

pub value_of-Less : (inputs : List ℤ) (a b : Formula) → value_of inputs (roll-Formula (Less a b)) ≡ clip (value_of inputs a -ℤ value_of inputs b)
value_of-Less inputs a b = fold-roll-Formula ℤ (value_step inputs) (Less a b)

pub value_of-Times : (inputs : List ℤ) (a b : Formula) → value_of inputs (roll-Formula (Times a b)) ≡ product_of (value_of inputs a) (value_of inputs b)
value_of-Times inputs a b = fold-roll-Formula ℤ (value_step inputs) (Times a b)

pub value_of-Over : (inputs : List ℤ) (a b : Formula) → value_of inputs (roll-Formula (Over a b)) ≡ quotient_of (value_of inputs a) (value_of inputs b)
value_of-Over inputs a b = fold-roll-Formula ℤ (value_step inputs) (Over a b)

pub value_of-Min : (inputs : List ℤ) (a b : Formula) → value_of inputs (roll-Formula (Min a b)) ≡ int_min (value_of inputs a) (value_of inputs b)
value_of-Min inputs a b = fold-roll-Formula ℤ (value_step inputs) (Min a b)

pub value_of-Max : (inputs : List ℤ) (a b : Formula) → value_of inputs (roll-Formula (Max a b)) ≡ int_max (value_of inputs a) (value_of inputs b)
value_of-Max inputs a b = fold-roll-Formula ℤ (value_step inputs) (Max a b)

pub value_of-Select : (inputs : List ℤ) (c a b : Formula) → value_of inputs (roll-Formula (Select c a b)) ≡ choice_of (value_of inputs c) (value_of inputs a) (value_of inputs b)
value_of-Select inputs c a b = fold-roll-Formula ℤ (value_step inputs) (Select c a b)

-- all of them: `simp values` computes the value of a tree that is written out
pub ruleset values = (value_of-Number, value_of-Input, value_of-Minus, value_of-Abs, value_of-Plus, value_of-Less, value_of-Times, value_of-Over, value_of-Min, value_of-Max, value_of-Select)

-- ---- numbers that are values

clip-within : (z : ℤ) → IsValue (clip z)
clip-within z = omega (arith, ints, int_max_is (neg_ℤ (pos greatest)) (int_min z (pos greatest)), int_min_is z (pos greatest))

minus-within : (a : ℤ) → IsValue a → IsValue (pos 0 -ℤ a)
minus-within a is = omega (arith, ints)

quotient_of-within : (a b : ℤ) → IsValue (quotient_of a b)
quotient_of-within a (pos zero) = omega arith
quotient_of-within a (pos (suc b)) = clip-within (near_of (a *ℤ pos million) (pos (suc b)))
quotient_of-within a (negsuc b) = clip-within (near_of (neg_ℤ (a *ℤ pos million)) (pos (suc b)))

cond-within : (a b : ℤ) (test : Bool) → IsValue a → IsValue b → IsValue (cond test a b)
cond-within a b true first second = first
cond-within a b false first second = second

choice_of-within : (c a b : ℤ) → IsValue a → IsValue b → IsValue (choice_of c a b)
choice_of-within (pos zero) a b first second = second
choice_of-within (pos (suc n)) a b first second = first
choice_of-within (negsuc n) a b first second = second

-- ---- the value of a tree

-- a tree whose inputs are among these has a value
abbrev IsWithin : List ℤ → Formula → Type 0
IsWithin inputs tree = is_over (length inputs) tree ≡ true → IsValue (value_of inputs tree)

opened : (inputs : List ℤ) (x : Formula-F Formula) → is_over (length inputs) (roll-Formula x) ≡ true → over_step (length inputs) (map-Formula Formula Bool (is_over (length inputs)) x) ≡ true
opened inputs x over = sym (fold-roll-Formula Bool (over_step (length inputs)) x) ∙ over

within-two : (inputs : List ℤ) (a b : Formula) → IsWithin inputs a → IsWithin inputs b → (is_over (length inputs) a && is_over (length inputs) b) ≡ true → IsValue (value_of inputs a) × IsValue (value_of inputs b)
within-two inputs a b first second over =
    let parts = and_parts (is_over (length inputs) a) (is_over (length inputs) b) over in (first parts.0, second parts.1)

within-level : (inputs : List ℤ) → All IsValue inputs → (y : Formula-F ((f : Formula) × IsWithin inputs f)) → IsWithin inputs (roll-Formula (map-Formula _ _ (λ e. e.0) y))
within-level inputs values (Number z) over = subst IsValue (sym (value_of-Number inputs z)) (leb-true (unsigned_abs z) greatest (opened inputs (Number z) over))
within-level inputs values (Input k) over = subst IsValue (sym (value_of-Input inputs k)) (values k (pos 0) (leb-true (suc k) (length inputs) (opened inputs (Input k) over)))
within-level inputs values (Minus a) over = subst IsValue (sym (value_of-Minus inputs a.0)) (minus-within (value_of inputs a.0) (a.1 (opened inputs (Minus a.0) over)))
within-level inputs values (Abs a) over = subst IsValue (sym (value_of-Abs inputs a.0)) (a.1 (opened inputs (Abs a.0) over))
within-level inputs values (Plus a b) over = subst IsValue (sym (value_of-Plus inputs a.0 b.0)) (clip-within (value_of inputs a.0 +ℤ value_of inputs b.0))
within-level inputs values (Less a b) over = subst IsValue (sym (value_of-Less inputs a.0 b.0)) (clip-within (value_of inputs a.0 -ℤ value_of inputs b.0))
within-level inputs values (Times a b) over = subst IsValue (sym (value_of-Times inputs a.0 b.0)) (clip-within (near_of (value_of inputs a.0 *ℤ value_of inputs b.0) (pos million)))
within-level inputs values (Over a b) over = subst IsValue (sym (value_of-Over inputs a.0 b.0)) (quotient_of-within (value_of inputs a.0) (value_of inputs b.0))
within-level inputs values (Min a b) over =
    let both = within-two inputs a.0 b.0 a.1 b.1 (opened inputs (Min a.0 b.0) over) in
    subst IsValue (sym (value_of-Min inputs a.0 b.0)) (cond-within (value_of inputs b.0) (value_of inputs a.0) (int_lt (value_of inputs b.0) (value_of inputs a.0)) both.1 both.0)
within-level inputs values (Max a b) over =
    let both = within-two inputs a.0 b.0 a.1 b.1 (opened inputs (Max a.0 b.0) over) in
    subst IsValue (sym (value_of-Max inputs a.0 b.0)) (cond-within (value_of inputs a.0) (value_of inputs b.0) (int_lt (value_of inputs b.0) (value_of inputs a.0)) both.0 both.1)
within-level inputs values (Select c a b) over =
    let parts = and_parts (is_over (length inputs) c.0 && is_over (length inputs) a.0) (is_over (length inputs) b.0) (opened inputs (Select c.0 a.0 b.0) over) in
    let first = and_parts (is_over (length inputs) c.0) (is_over (length inputs) a.0) parts.0 in
    subst IsValue (sym (value_of-Select inputs c.0 a.0 b.0)) (choice_of-within (value_of inputs c.0) (value_of inputs a.0) (value_of inputs b.0) (a.1 first.1) (b.1 parts.1))

-- over inputs that are values, the value of a tree in range is a value
pub value_of-within : (inputs : List ℤ) → All IsValue inputs → (tree : Formula) → IsTrue (is_over (length inputs) tree) → IsValue (value_of inputs tree)
value_of-within inputs values =
    ind-Formula (IsWithin inputs) (λ x y is. subst (λ z. IsWithin inputs (roll-Formula z)) is (within-level inputs values y))
