-- What the reader has in hand where reading over derivations stands: each part as its tree, over given reads.
use Rattle.std.proofs.Common.{◌≡◌, ℕ, List, [], ◌∷◌, ◌++◌, Option, Some, None, refl, ap, ◌∙◌}
use Rattle.cpl_formula.specs.Functions.{tree_of_binary, tree_of_ternary, tree_of_unary}
use Rattle.cpl_formula.specs.Grammar.{Expr, Term, Atom, tree_of_sum, tree_of_product, offset_number, tree_of_expr, tree_of_term, tree_of_factor, depth_of_expr, depth_of_term, depth_of_factor}
use Rattle.cpl_formula.specs.Steps.{with_product, with_sum, term_at, expr_at, opening_of, closed_part, next_opening, onto_front, split_last, joined_part}
use Rattle.cpl_formula.specs.Steps as steps
use Rattle.cpl_formula.specs.declared.formula.Read.{Read}
use Rattle.cpl_formula.specs.declared.state.Frame.{Frame}
use Rattle.cpl_formula.specs.declared.state.Level.{Level}
use Rattle.cpl_formula.specs.declared.state.Mode.{Mode}
use Rattle.cpl_formula.specs.declared.state.Mode.TheVariants as mode
use Rattle.cpl_formula.specs.declared.state.Opening.{Opening}
use Rattle.cpl_formula.specs.declared.state.Opening.TheVariants as opening
use Rattle.cpl_formula.specs.declared.state.Part.{Part}
use Rattle.cpl_formula.specs.declared.state.Product.{Product}
use Rattle.cpl_formula.specs.declared.state.State.{State}
use Rattle.cpl_formula.specs.declared.state.Sum.{Sum}
use Rattle.cpl_formula.specs.declared.functions.Function.{Function}
use Rattle.cpl_formula.specs.declared.functions.Function.TheVariants as function
use Rattle.cpl_formula.specs.declared.tokens.ProductSign.{ProductSign}
use Rattle.cpl_formula.specs.declared.tokens.SumSign.{SumSign}
use Rattle.cpl_formula.proofs.CutParts.{part_of_expr, part_of_term, part_of_atom, counted, around_cut, joined_cut, joined_three_cut, negated_same}
use Rattle.cpl_formula.proofs.Standing as standing
use Rattle.cpl_formula.proofs.Standing.{Waits, Opened, Place, Standing}
use Rattle.cpl_formula.proofs.Standing.Opened.{grouping, only_of, first_of_two, second_of_two, first_of_three, second_of_three, third_of_three}
use Rattle.cpl_formula.proofs.Standing.Place.{wanted, called, named, column, between, row, ending, behind}

-- ---- what waits

abbrev pub shown_sum : List Read → Option (Expr × SumSign) → Option Sum
shown_sum reads None = None
shown_sum reads (Some s) = Some (record { left = part_of_expr reads s.0; sign = s.1 })

abbrev pub shown_product : List Read → Option (Term × ProductSign) → Option Product
shown_product reads None = None
shown_product reads (Some p) = Some (record { left = part_of_term reads p.0; sign = p.1 })

abbrev pub shown_level : List Read → Waits → Level
shown_level reads w = record { sum = shown_sum reads w.sums; product = shown_product reads w.products; minus = counted w.minuses }

with_product_same : (reads : List Read) (products : Option (Term × ProductSign)) (n : ℕ) (a : Atom)
    → with_product (shown_product reads products) (steps.part_with_minuses (counted n) (part_of_atom reads a)) ≡ part_of_term reads (standing.with_product products (standing.negated n a))
with_product_same reads None n a = negated_same reads n a
with_product_same reads (Some p) n a =
    let f = standing.negated n a in
    ap (joined_part (tree_of_product p.1) (part_of_term reads p.0)) (negated_same reads n a) ∙ joined_cut (tree_of_product p.1) (tree_of_term reads p.0) (tree_of_factor reads f) (depth_of_term p.0) (depth_of_factor f)

pub term_same : (reads : List Read) (w : Waits) (a : Atom) → term_at (shown_level reads w) (part_of_atom reads a) ≡ part_of_term reads (standing.term_at w a)
term_same reads w a = with_product_same reads w.products w.minuses a

with_sum_same : (reads : List Read) (sums : Option (Expr × SumSign)) (t : Term)
    → with_sum (shown_sum reads sums) (part_of_term reads t) ≡ part_of_expr reads (standing.with_sum sums t)
with_sum_same reads None t = refl
with_sum_same reads (Some s) t = joined_cut (tree_of_sum s.1) (tree_of_expr reads s.0) (tree_of_term reads t) (depth_of_expr s.0) (depth_of_term t)

pub expr_same : (reads : List Read) (w : Waits) (a : Atom) → expr_at (shown_level reads w) (part_of_atom reads a) ≡ part_of_expr reads (standing.expr_at w a)
expr_same reads w a = ap (with_sum (shown_sum reads w.sums)) (term_same reads w a) ∙ with_sum_same reads w.sums (standing.term_at w a)

-- ---- open brackets

abbrev pub shown_opening : List Read → Opened → Opening
shown_opening reads grouping = opening.Group
shown_opening reads (only_of f) = opening.OnlyOf f
shown_opening reads (first_of_two f) = opening.FirstOfTwo f
shown_opening reads (second_of_two f a) = opening.SecondOfTwo f (part_of_expr reads a)
shown_opening reads (first_of_three f) = opening.FirstOfThree f
shown_opening reads (second_of_three f a) = opening.SecondOfThree f (part_of_expr reads a)
shown_opening reads (third_of_three f a b) = opening.ThirdOfThree f (part_of_expr reads a) (part_of_expr reads b)

pub opening_same : (reads : List Read) (f : Function) → opening_of f ≡ shown_opening reads (standing.opening_of f)
opening_same reads (function.Unary f) = refl
opening_same reads (function.Binary f) = refl
opening_same reads (function.Ternary f) = refl

abbrev pub shown_atom : List Read → Option Atom → Option Part
shown_atom reads None = None
shown_atom reads (Some a) = Some (part_of_atom reads a)

abbrev pub shown_next : List Read → Option Opened → Option Opening
shown_next reads None = None
shown_next reads (Some o) = Some (shown_opening reads o)

pub closed_same : (reads : List Read) (o : Opened) (e : Expr) → closed_part (shown_opening reads o) (part_of_expr reads e) ≡ shown_atom reads (standing.closed_atom o e)
closed_same reads grouping e = ap Some (around_cut (λ t. t) (tree_of_expr reads e) (depth_of_expr e))
closed_same reads (only_of f) e = ap Some (around_cut (tree_of_unary f) (tree_of_expr reads e) (depth_of_expr e))
closed_same reads (second_of_two f a) e = ap Some (joined_cut (tree_of_binary f) (tree_of_expr reads a) (tree_of_expr reads e) (depth_of_expr a) (depth_of_expr e))
closed_same reads (third_of_three f a b) e =
    ap Some (joined_three_cut (tree_of_ternary f) (tree_of_expr reads a) (tree_of_expr reads b) (tree_of_expr reads e) (depth_of_expr a) (depth_of_expr b) (depth_of_expr e))
closed_same reads o e = refl

pub next_same : (reads : List Read) (o : Opened) (e : Expr) → next_opening (shown_opening reads o) (part_of_expr reads e) ≡ shown_next reads (standing.next_opened o e)
next_same reads (first_of_two f) e = refl
next_same reads (first_of_three f) e = refl
next_same reads (second_of_three f a) e = refl
next_same reads o e = refl

abbrev pub shown_frame : List Read → Waits × Opened → Frame
shown_frame reads b = record { level = shown_level reads b.0; opening = shown_opening reads b.1 }

abbrev pub shown_frames : List Read → List (Waits × Opened) → List Frame
shown_frames reads [] = []
shown_frames reads (b ∷ bs) = shown_frames reads bs ++ shown_frame reads b ∷ []

pub split_behind : {A : Type 0} (xs : List A) (x : A) → split_last (xs ++ x ∷ []) ≡ Some (xs, x)
split_behind [] x = refl
split_behind (y ∷ xs) x = ap (onto_front y) (split_behind xs x)

-- ---- a whole standing

abbrev pub shown_mode : List Read → Place → Mode
shown_mode reads wanted = mode.Wanted
shown_mode reads (called f) = mode.Called f
shown_mode reads (named k) = mode.Named k
shown_mode reads (column k minus) = mode.Column k minus
shown_mode reads (between k x) = mode.Between k (offset_number x)
shown_mode reads (row k x minus) = mode.Row k (offset_number x) minus
shown_mode reads (ending k x y) = mode.Ending k (offset_number x) (offset_number y)
shown_mode reads (behind a) = mode.Behind (part_of_atom reads a)

abbrev pub shown : List Read → Standing → State
shown reads s = steps.state (shown_frames reads s.brackets) (shown_level reads s.waits) (shown_mode reads s.place)
