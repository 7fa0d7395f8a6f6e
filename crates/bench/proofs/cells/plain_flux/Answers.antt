use Rattle.std.proofs.Common.{arith, ◌≡◌, ◌<◌, ◌+ℤ◌, ◌-ℤ◌, ◌∙◌, ℕ, ℤ, pos, sym, List, to_z, of_z, w64, slice_index_or}
use Rattle.std.proofs.lemmas.Int.{ints}
use Rattle.cpl_base.specs.Numbers.{IsValue, clip}
use Rattle.cpl_base.specs.Rounding.{product_of, quotient_of}
use Rattle.cpl_formula.specs.Tree.{value_of, value_step}
use Rattle.cpl_formula.specs.declared.formula.Formula.{Formula}
use Rattle.cpl_formula.specs.declared.formula.Formula.TheFolds.{fold-roll-Formula}
use Rattle.cpl_formula.specs.declared.formula.Formula.TheOpen.{Number, Input, Plus, Less, Times, Over}
use Rattle.bench.specs.Flux.{number, input, plus_tree, less_tree, times_tree, over_tree}
use Rattle.bench.proofs.cells.plain_flux.Goals as goal

-- ---- the value of one level

read_at : (xs : List ℤ) → (k : ℕ) → slice_index_or xs k (pos 0) ≡ value_of xs (input k)
read_at xs k = sym (fold-roll-Formula ℤ (value_step xs) (Input k))

given : (xs : List ℤ) → (n : ℕ) → pos n ≡ value_of xs (number n)
given xs n = sym (fold-roll-Formula ℤ (value_step xs) (Number (pos n)))

summed : (xs : List ℤ) → (a b : Formula) → clip (value_of xs a +ℤ value_of xs b) ≡ value_of xs (plus_tree a b)
summed xs a b = sym (fold-roll-Formula ℤ (value_step xs) (Plus a b))

lessened : (xs : List ℤ) → (a b : Formula) → clip (value_of xs a -ℤ value_of xs b) ≡ value_of xs (less_tree a b)
lessened xs a b = sym (fold-roll-Formula ℤ (value_step xs) (Less a b))

multiplied : (xs : List ℤ) → (a b : Formula) → product_of (value_of xs a) (value_of xs b) ≡ value_of xs (times_tree a b)
multiplied xs a b = sym (fold-roll-Formula ℤ (value_step xs) (Times a b))

divided : (xs : List ℤ) → (a b : Formula) → quotient_of (value_of xs a) (value_of xs b) ≡ value_of xs (over_tree a b)
divided xs a b = sym (fold-roll-Formula ℤ (value_step xs) (Over a b))

-- a value fits 64 bits
kept : (x : ℤ) → IsValue x → to_z w64 (of_z w64 x) ≡ x
kept x is_value = omega (arith, ints)

-- level by level, what the code has computed is what the formula has there
pub returns : goal.returns
returns c =
    let xs = c.args.inputs.now in
    let at : (k : ℕ) → k < 6 → to_z w64 (of_z w64 (slice_index_or xs k (pos 0))) ≡ value_of xs (input k) =
    λ k below. kept (slice_index_or xs k (pos 0)) (c.requires.values k (pos 0) (omega (arith, below, c.requires.count))) ∙ read_at xs k in
    let flux = at 0 (omega arith) in
    let columns = kept _ c.plus-columns.ensures.within ∙ c.plus-columns.ensures.value ∙ (λ j. clip (at 1 (omega arith) j +ℤ at 2 (omega arith) j)) ∙ summed xs _ _ in
    let three = kept _ c.plus.ensures.within ∙ c.plus.ensures.value ∙ (λ j. clip (columns j +ℤ at 3 (omega arith) j)) ∙ summed xs _ _ in
    let around = kept _ c.plus-around.ensures.within ∙ c.plus-around.ensures.value ∙ (λ j. clip (three j +ℤ at 4 (omega arith) j)) ∙ summed xs _ _ in
    let four = kept _ c.mul.ensures.within ∙ c.mul.ensures.value ∙ (λ j. product_of (given xs 4000000 j) (flux j)) ∙ multiplied xs _ _ in
    let bend = kept _ c.less-bend.ensures.within ∙ c.less-bend.ensures.value ∙ (λ j. clip (around j -ℤ four j)) ∙ lessened xs _ _ in
    let spread = kept _ c.mul-2.ensures.within ∙ c.mul-2.ensures.value ∙ (λ j. product_of (given xs 50000 j) (bend j)) ∙ multiplied xs _ _ in
    let next = kept _ c.plus-2.ensures.within ∙ c.plus-2.ensures.value ∙ (λ j. clip (flux j +ℤ spread j)) ∙ summed xs _ _ in
    let cooled = kept _ c.div.ensures.within ∙ c.div.ensures.value ∙ (λ j. quotient_of (at 5 (omega arith) j) (given xs 100000000 j)) ∙ divided xs _ _ in
    kept _ c.less.ensures.within ∙ c.less.ensures.value ∙ (λ j. clip (next j -ℤ cooled j)) ∙ lessened xs _ _
