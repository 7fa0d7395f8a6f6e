-- The grammar of formulas: derivations, the tokens that each of them yields, and what it stands for.
use Rattle.std.specs.Prelude.{ℕ, suc, ℤ, pos, neg_ℤ, ◌*◌, max, List, [], ◌∷◌, ◌++◌}
use Rattle.std.specs.List.{position_or_len}
use Rattle.cpl_base.specs.Numbers.{million}
use Rattle.cpl_formula.specs.Functions.{tree_of_binary, tree_of_ternary, tree_of_unary}
use Rattle.cpl_formula.specs.Reads.{same_read, read_at}
use Rattle.cpl_formula.specs.declared.formula.Formula.{Formula, roll-Formula}
use Rattle.cpl_formula.specs.declared.formula.Formula.TheOpen as tree
use Rattle.cpl_formula.specs.declared.formula.Read.{Read}
use Rattle.cpl_formula.specs.declared.formula.ReadName.{ReadName}
use Rattle.cpl_formula.specs.declared.formula.ReadName.TheVariants as names
use Rattle.cpl_formula.specs.declared.functions.Binary.{Binary}
use Rattle.cpl_formula.specs.declared.functions.Function.TheVariants as function
use Rattle.cpl_formula.specs.declared.functions.Ternary.{Ternary}
use Rattle.cpl_formula.specs.declared.functions.Unary.{Unary}
use Rattle.cpl_formula.specs.declared.tokens.Token.{Token}
use Rattle.cpl_formula.specs.declared.tokens.Token.TheVariants as token
use Rattle.cpl_formula.specs.declared.tokens.SumSign.{SumSign}
use Rattle.cpl_formula.specs.declared.tokens.SumSign.TheVariants.{Plus, Less}
use Rattle.cpl_formula.specs.declared.tokens.ProductSign.{ProductSign}
use Rattle.cpl_formula.specs.declared.tokens.ProductSign.TheVariants.{Times, Over}

-- ---- derivations

-- how far a neighbour may be in one direction
pub data Near : Type 0 where
  none : Near
  one : Near
  two : Near

-- an offset, or one behind a minus
pub data Offset : Type 0 where
  ahead : Near → Offset
  back : Near → Offset

mutual
  -- a term, or an expr, a sign of sums and a term: so chains group from the left
  pub data Expr : Type 0 where
    term : Term → Expr
    sum : Expr → SumSign → Term → Expr

  -- a factor, or a term, a sign of products and a factor
  pub data Term : Type 0 where
    factor : Factor → Term
    product : Term → ProductSign → Factor → Term

  -- a minus in front of a factor, or an atom
  pub data Factor : Type 0 where
    minus : Factor → Factor
    atom : Atom → Factor

  -- what neither a sum nor a product nor a minus is made of
  pub data Atom : Type 0 where
    digit : ℕ → Atom
    number : ℤ → Atom
    quantity : ReadName → Atom
    field : ℕ → Atom
    neighbour : ℕ → Offset → Offset → Atom
    group : Expr → Atom
    unary : Unary → Expr → Atom
    binary : Binary → Expr → Expr → Atom
    ternary : Ternary → Expr → Expr → Expr → Atom

-- ---- the tokens that they yield

-- how far that is
abbrev pub far_of : Near → ℕ
far_of none = 0
far_of one = 1
far_of two = 2

-- an optional minus and a digit
abbrev pub yield_of_offset : Offset → List Token
yield_of_offset (ahead far) = token.Digit (far_of far) ∷ []
yield_of_offset (back far) = token.Sum Less ∷ token.Digit (far_of far) ∷ []

abbrev mutual
  pub yield_of_expr : Expr → List Token
  yield_of_expr (term t) = yield_of_term t
  yield_of_expr (sum e sign t) = yield_of_expr e ++ (token.Sum sign ∷ yield_of_term t)

  pub yield_of_term : Term → List Token
  yield_of_term (factor f) = yield_of_factor f
  yield_of_term (product t sign f) = yield_of_term t ++ (token.Product sign ∷ yield_of_factor f)

  pub yield_of_factor : Factor → List Token
  yield_of_factor (minus f) = token.Sum Less ∷ yield_of_factor f
  yield_of_factor (atom a) = yield_of_atom a

  pub yield_of_atom : Atom → List Token
  yield_of_atom (digit d) = token.Digit d ∷ []
  yield_of_atom (number z) = token.Number z ∷ []
  yield_of_atom (quantity q) = token.Quantity q ∷ []
  yield_of_atom (field k) = token.Field k ∷ []
  yield_of_atom (neighbour k x y) = token.Field k ∷ token.OpenBracket ∷ (yield_of_offset x ++ (token.Comma ∷ (yield_of_offset y ++ token.CloseBracket ∷ [])))
  yield_of_atom (group e) = token.Open ∷ (yield_of_expr e ++ token.Close ∷ [])
  yield_of_atom (unary f a) = token.Function (function.Unary f) ∷ token.Open ∷ (yield_of_expr a ++ token.Close ∷ [])
  yield_of_atom (binary f a b) = token.Function (function.Binary f) ∷ token.Open ∷ (yield_of_expr a ++ (token.Comma ∷ (yield_of_expr b ++ token.Close ∷ [])))
  yield_of_atom (ternary f a b c) = token.Function (function.Ternary f) ∷ token.Open ∷ (yield_of_expr a ++ (token.Comma ∷ (yield_of_expr b ++ (token.Comma ∷ (yield_of_expr c ++ token.Close ∷ [])))))

-- ---- what they stand for

-- what an offset says
abbrev pub offset_number : Offset → ℤ
offset_number (ahead far) = pos (far_of far)
offset_number (back far) = neg_ℤ (pos (far_of far))

-- what a derivation reads, in the order in which it stands there
abbrev mutual
  pub reads_of_expr : Expr → List Read
  reads_of_expr (term t) = reads_of_term t
  reads_of_expr (sum e sign t) = reads_of_expr e ++ reads_of_term t

  pub reads_of_term : Term → List Read
  reads_of_term (factor f) = reads_of_factor f
  reads_of_term (product t sign f) = reads_of_term t ++ reads_of_factor f

  pub reads_of_factor : Factor → List Read
  reads_of_factor (minus f) = reads_of_factor f
  reads_of_factor (atom a) = reads_of_atom a

  pub reads_of_atom : Atom → List Read
  reads_of_atom (digit d) = []
  reads_of_atom (number z) = []
  reads_of_atom (quantity q) = read_at q (pos 0) (pos 0) ∷ []
  reads_of_atom (field k) = read_at (names.Field k) (pos 0) (pos 0) ∷ []
  reads_of_atom (neighbour k x y) = read_at (names.Field k) (offset_number x) (offset_number y) ∷ []
  reads_of_atom (group e) = reads_of_expr e
  reads_of_atom (unary f a) = reads_of_expr a
  reads_of_atom (binary f a b) = reads_of_expr a ++ reads_of_expr b
  reads_of_atom (ternary f a b c) = reads_of_expr a ++ (reads_of_expr b ++ reads_of_expr c)

-- a sign of sums as a level of a tree
abbrev pub tree_of_sum : SumSign → Formula → Formula → Formula
tree_of_sum Plus a b = roll-Formula (tree.Plus a b)
tree_of_sum Less a b = roll-Formula (tree.Less a b)

-- a sign of products as a level of a tree
abbrev pub tree_of_product : ProductSign → Formula → Formula → Formula
tree_of_product Times a b = roll-Formula (tree.Times a b)
tree_of_product Over a b = roll-Formula (tree.Over a b)

-- a read, by its place among reads
abbrev pub input_of : List Read → Read → Formula
input_of reads r = roll-Formula (tree.Input (position_or_len (same_read r) reads))

-- the tree of a derivation, whose inputs are these reads
abbrev mutual
  pub tree_of_expr : List Read → Expr → Formula
  tree_of_expr reads (term t) = tree_of_term reads t
  tree_of_expr reads (sum e sign t) = tree_of_sum sign (tree_of_expr reads e) (tree_of_term reads t)

  pub tree_of_term : List Read → Term → Formula
  tree_of_term reads (factor f) = tree_of_factor reads f
  tree_of_term reads (product t sign f) = tree_of_product sign (tree_of_term reads t) (tree_of_factor reads f)

  pub tree_of_factor : List Read → Factor → Formula
  tree_of_factor reads (minus f) = roll-Formula (tree.Minus (tree_of_factor reads f))
  tree_of_factor reads (atom a) = tree_of_atom reads a

  pub tree_of_atom : List Read → Atom → Formula
  tree_of_atom reads (digit d) = roll-Formula (tree.Number (pos (d * million)))
  tree_of_atom reads (number z) = roll-Formula (tree.Number z)
  tree_of_atom reads (quantity q) = input_of reads (read_at q (pos 0) (pos 0))
  tree_of_atom reads (field k) = input_of reads (read_at (names.Field k) (pos 0) (pos 0))
  tree_of_atom reads (neighbour k x y) = input_of reads (read_at (names.Field k) (offset_number x) (offset_number y))
  tree_of_atom reads (group e) = tree_of_expr reads e
  tree_of_atom reads (unary f a) = tree_of_unary f (tree_of_expr reads a)
  tree_of_atom reads (binary f a b) = tree_of_binary f (tree_of_expr reads a) (tree_of_expr reads b)
  tree_of_atom reads (ternary f a b c) = tree_of_ternary f (tree_of_expr reads a) (tree_of_expr reads b) (tree_of_expr reads c)

-- How deep a derivation is. Numbers and names are 1 deep; a sign, a function and a pair of brackets are one
-- deeper than the deepest of their parts, where the brackets of a function don't count.
abbrev mutual
  pub depth_of_expr : Expr → ℕ
  depth_of_expr (term t) = depth_of_term t
  depth_of_expr (sum e sign t) = suc (max (depth_of_expr e) (depth_of_term t))

  pub depth_of_term : Term → ℕ
  depth_of_term (factor f) = depth_of_factor f
  depth_of_term (product t sign f) = suc (max (depth_of_term t) (depth_of_factor f))

  pub depth_of_factor : Factor → ℕ
  depth_of_factor (minus f) = suc (depth_of_factor f)
  depth_of_factor (atom a) = depth_of_atom a

  pub depth_of_atom : Atom → ℕ
  depth_of_atom (digit d) = 1
  depth_of_atom (number z) = 1
  depth_of_atom (quantity q) = 1
  depth_of_atom (field k) = 1
  depth_of_atom (neighbour k x y) = 1
  depth_of_atom (group e) = suc (depth_of_expr e)
  depth_of_atom (unary f a) = suc (depth_of_expr a)
  depth_of_atom (binary f a b) = suc (max (depth_of_expr a) (depth_of_expr b))
  depth_of_atom (ternary f a b c) = suc (max (depth_of_expr a) (max (depth_of_expr b) (depth_of_expr c)))
