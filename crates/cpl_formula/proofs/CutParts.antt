-- A part of a formula as the reader keeps it, from its tree and its depth, and what signs and functions make of such parts.
use Rattle.std.proofs.Common.{◌≡◌, ℕ, zero, suc, ◌<◌, ◌≤◌, max, Bool, true, false, if◌then◌else◌, leb, ltb, List, refl, ap, ◌∙◌, add-one, arith, le-leb, leb-true, leb-false}
use Rattle.std.proofs.lemmas.Bool.{lt-leb}
use Rattle.cpl_formula.specs.Grammar.{Expr, Term, Factor, Atom, tree_of_expr, tree_of_term, tree_of_factor, tree_of_atom, depth_of_expr, depth_of_term, depth_of_factor, depth_of_atom}
use Rattle.cpl_formula.proofs.Standing as standing
use Rattle.cpl_formula.specs.Steps.{part_around, joined_part, joined_part_of_three, part_with_minuses, next_minus_count}
use Rattle.cpl_formula.specs.declared.formula.Formula.{Formula, roll-Formula}
use Rattle.cpl_formula.specs.declared.formula.Formula.TheOpen as tree
use Rattle.cpl_formula.specs.declared.formula.Read.{Read}
use Rattle.cpl_formula.specs.declared.state.Part.{Part}
use Rattle.cpl_formula.specs.declared.state.Part.TheVariants.{Kept, Deep}

-- a tree of that depth, unless it is too deep
abbrev pub cut : Formula → ℕ → Part
cut t d = if leb d 32 then Kept t d else Deep

pub kept : (t : Formula) (d : ℕ) → d ≤ 32 → cut t d ≡ Kept t d
kept t d small = rw (le-leb d 32 small)

pub deep : (t : Formula) (d : ℕ) → 32 < d → cut t d ≡ Deep
deep t d large = rw (lt-leb d 32 large)

-- a level around a tree
around_by : (make : Formula → Formula) (t : Formula) (d : ℕ) (b : Bool) → leb d 32 ≡ b → part_around make (cut t d) ≡ cut (make t) (suc d)
around_by make t d true small = rw (small, add-one d) refl
around_by make t d false large =
    let over : 32 < d = leb-false d 32 large in
    let more : leb (suc d) 32 ≡ false = lt-leb (suc d) 32 (omega arith) in
    rw (large, more) refl

pub around_cut : (make : Formula → Formula) (t : Formula) (d : ℕ) → part_around make (cut t d) ≡ cut (make t) (suc d)
around_cut make t d = around_by make t d (leb d 32) refl

-- a level around two trees
joined_by : (make : Formula → Formula → Formula) (s t : Formula) (m n : ℕ) (a b : Bool) → leb m 32 ≡ a → leb n 32 ≡ b
    → joined_part make (cut s m) (cut t n) ≡ cut (make s t) (suc (max m n))
joined_by make s t m n true true left right = rw (left, right, add-one (max m n)) refl
joined_by make s t m n false b left right =
    let over : 32 < m = leb-false m 32 left in
    let more : leb (suc (max m n)) 32 ≡ false = lt-leb (suc (max m n)) 32 (omega arith) in
    rw (left, more) refl
joined_by make s t m n true false left right =
    let over : 32 < n = leb-false n 32 right in
    let more : leb (suc (max m n)) 32 ≡ false = lt-leb (suc (max m n)) 32 (omega arith) in
    rw (left, right, more) refl

pub joined_cut : (make : Formula → Formula → Formula) (s t : Formula) (m n : ℕ) → joined_part make (cut s m) (cut t n) ≡ cut (make s t) (suc (max m n))
joined_cut make s t m n = joined_by make s t m n (leb m 32) (leb n 32) refl refl

-- a level around three trees
joined_three_by : (make : Formula → Formula → Formula → Formula) (r s t : Formula) (l m n : ℕ) (a b c : Bool) → leb l 32 ≡ a → leb m 32 ≡ b → leb n 32 ≡ c
    → joined_part_of_three make (cut r l) (cut s m) (cut t n) ≡ cut (make r s t) (suc (max l (max m n)))
joined_three_by make r s t l m n true true true first second third = rw (first, second, third, add-one (max l (max m n))) refl
joined_three_by make r s t l m n false b c first second third =
    let over : 32 < l = leb-false l 32 first in
    let more : leb (suc (max l (max m n))) 32 ≡ false = lt-leb (suc (max l (max m n))) 32 (omega arith) in
    rw (first, more) refl
joined_three_by make r s t l m n true false c first second third =
    let over : 32 < m = leb-false m 32 second in
    let more : leb (suc (max l (max m n))) 32 ≡ false = lt-leb (suc (max l (max m n))) 32 (omega arith) in
    rw (first, second, more) refl
joined_three_by make r s t l m n true true false first second third =
    let over : 32 < n = leb-false n 32 third in
    let more : leb (suc (max l (max m n))) 32 ≡ false = lt-leb (suc (max l (max m n))) 32 (omega arith) in
    rw (first, second, third, more) refl

pub joined_three_cut : (make : Formula → Formula → Formula → Formula) (r s t : Formula) (l m n : ℕ) → joined_part_of_three make (cut r l) (cut s m) (cut t n) ≡ cut (make r s t) (suc (max l (max m n)))
joined_three_cut make r s t l m n = joined_three_by make r s t l m n (leb l 32) (leb m 32) (leb n 32) refl refl refl

-- ---- minus signs

-- so many minus signs, as the reader counts them
abbrev pub counted : ℕ → ℕ
counted zero = zero
counted (suc n) = next_minus_count (counted n)

abbrev negative : Formula → Formula
negative t = roll-Formula (tree.Minus t)

-- so many minus signs in front of a tree
abbrev minused : ℕ → Formula → Formula
minused zero t = t
minused (suc n) t = negative (minused n t)

abbrev raised : ℕ → ℕ → ℕ
raised zero d = d
raised (suc n) d = suc (raised n d)

raised-le : (n d : ℕ) → n ≤ raised n d
raised-le zero d = omega arith
raised-le (suc n) d = let rest : n ≤ raised n d = raised-le n d in omega arith

negated_cut : (n : ℕ) (t : Formula) (d : ℕ) → part_with_minuses n (cut t d) ≡ cut (minused n t) (raised n d)
negated_cut zero t d = refl
negated_cut (suc n) t d = ap (part_around negative) (negated_cut n t d) ∙ around_cut negative (minused n t) (raised n d)

-- one minus sign more
one_more_by : (n : ℕ) (t : Formula) (d : ℕ) (b : Bool) → ltb 32 n ≡ b → part_with_minuses (next_minus_count n) (cut t d) ≡ part_around negative (part_with_minuses n (cut t d))
one_more_by n t d false small = rw (small, add-one n) refl
one_more_by n t d true large =
    let over : 32 < n = leb-true 33 n large in
    let below : n ≤ raised n d = raised-le n d in
    let sunk : part_with_minuses n (cut t d) ≡ Deep = negated_cut n t d ∙ deep (minused n t) (raised n d) (omega arith) in
    rw (large, sunk) refl

negated_counted : (n : ℕ) (t : Formula) (d : ℕ) → part_with_minuses (counted n) (cut t d) ≡ part_with_minuses n (cut t d)
negated_counted zero t d = refl
negated_counted (suc n) t d = one_more_by (counted n) t d (ltb 32 (counted n)) refl ∙ ap (part_around negative) (negated_counted n t d)

-- ---- parts of derivations

abbrev pub part_of_expr : List Read → Expr → Part
part_of_expr reads e = cut (tree_of_expr reads e) (depth_of_expr e)

abbrev pub part_of_term : List Read → Term → Part
part_of_term reads t = cut (tree_of_term reads t) (depth_of_term t)

abbrev pub part_of_factor : List Read → Factor → Part
part_of_factor reads f = cut (tree_of_factor reads f) (depth_of_factor f)

abbrev pub part_of_atom : List Read → Atom → Part
part_of_atom reads a = cut (tree_of_atom reads a) (depth_of_atom a)

negated_part : (reads : List Read) (n : ℕ) (a : Atom) → part_with_minuses n (part_of_atom reads a) ≡ part_of_factor reads (standing.negated n a)
negated_part reads zero a = refl
negated_part reads (suc n) a =
    ap (part_around negative) (negated_part reads n a) ∙ around_cut negative (tree_of_factor reads (standing.negated n a)) (depth_of_factor (standing.negated n a))

pub negated_same : (reads : List Read) (n : ℕ) (a : Atom) → part_with_minuses (counted n) (part_of_atom reads a) ≡ part_of_factor reads (standing.negated n a)
negated_same reads n a = negated_counted n (tree_of_atom reads a) (depth_of_atom a) ∙ negated_part reads n a
