-- Reading with derivations in place of trees: what stands open behind some tokens, as parts of a derivation.
use Rattle.std.proofs.Common.{ℕ, zero, suc, pos, Bool, true, false, List, [], ◌∷◌, ◌++◌, Option, Some, None}
use Rattle.cpl_formula.specs.Grammar.{Expr, Term, Factor, Atom, Offset, Near, offset_number}
use Rattle.cpl_formula.specs.Grammar.Expr.{term, sum}
use Rattle.cpl_formula.specs.Grammar.Term.{factor, product}
use Rattle.cpl_formula.specs.Grammar.Factor.{minus, atom}
use Rattle.cpl_formula.specs.Grammar.Atom.{digit, number, quantity, field, neighbour, group, unary, binary, ternary}
use Rattle.cpl_formula.specs.Grammar.Near.{none, one, two}
use Rattle.cpl_formula.specs.Grammar.Offset.{ahead, back}
use Rattle.cpl_formula.specs.Reads.{read_at}
use Rattle.cpl_formula.specs.declared.formula.Read.{Read}
use Rattle.cpl_formula.specs.declared.formula.ReadName.TheVariants as names
use Rattle.cpl_formula.specs.declared.functions.Binary.{Binary}
use Rattle.cpl_formula.specs.declared.functions.Function.{Function}
use Rattle.cpl_formula.specs.declared.functions.Function.TheVariants as function
use Rattle.cpl_formula.specs.declared.functions.Ternary.{Ternary}
use Rattle.cpl_formula.specs.declared.functions.Unary.{Unary}
use Rattle.cpl_formula.specs.declared.tokens.ProductSign.{ProductSign}
use Rattle.cpl_formula.specs.declared.tokens.SumSign.{SumSign}
use Rattle.cpl_formula.specs.declared.tokens.SumSign.TheVariants.{Less}
use Rattle.cpl_formula.specs.declared.tokens.Token.{Token}
use Rattle.cpl_formula.specs.declared.tokens.Token.TheVariants as token

-- what waits for an operand
pub record Waits : Type 0 where
  pub sums : Option (Expr × SumSign)
  pub products : Option (Term × ProductSign)
  pub minuses : ℕ

-- what is read in an open bracket
pub data Opened : Type 0 where
  grouping : Opened
  only_of : Unary → Opened
  first_of_two : Binary → Opened
  second_of_two : Binary → Expr → Opened
  first_of_three : Ternary → Opened
  second_of_three : Ternary → Expr → Opened
  third_of_three : Ternary → Expr → Expr → Opened

-- what the last token was a part of
pub data Place : Type 0 where
  wanted : Place
  called : Function → Place
  named : ℕ → Place
  column : ℕ → Bool → Place
  between : ℕ → Offset → Place
  row : ℕ → Offset → Bool → Place
  ending : ℕ → Offset → Offset → Place
  behind : Atom → Place

-- Where reading stands: the open brackets, the innermost first, what waits in the innermost, what the last token
-- was, and the reads that were read whole.
pub record Standing : Type 0 where
  pub brackets : List (Waits × Opened)
  pub waits : Waits
  pub place : Place
  pub done : List Read

abbrev pub standing : List (Waits × Opened) → Waits → Place → List Read → Standing
standing brackets waits place done = record { brackets = brackets; waits = waits; place = place; done = done }

abbrev pub waiting : Option (Expr × SumSign) → Option (Term × ProductSign) → ℕ → Waits
waiting sums products minuses = record { sums = sums; products = products; minuses = minuses }

abbrev pub nothing : Waits
nothing = waiting None None 0

-- so many minus signs in front of an atom
abbrev pub negated : ℕ → Atom → Factor
negated zero a = atom a
negated (suc n) a = minus (negated n a)

abbrev pub with_product : Option (Term × ProductSign) → Factor → Term
with_product None f = factor f
with_product (Some p) f = product p.0 p.1 f

abbrev pub with_sum : Option (Expr × SumSign) → Term → Expr
with_sum None t = term t
with_sum (Some s) t = sum s.0 s.1 t

abbrev pub term_at : Waits → Atom → Term
term_at w a = with_product w.products (negated w.minuses a)

abbrev pub expr_at : Waits → Atom → Expr
expr_at w a = with_sum w.sums (term_at w a)

abbrev pub opening_of : Function → Opened
opening_of (function.Unary f) = only_of f
opening_of (function.Binary f) = first_of_two f
opening_of (function.Ternary f) = first_of_three f

abbrev pub closed_atom : Opened → Expr → Option Atom
closed_atom grouping e = Some (group e)
closed_atom (only_of f) e = Some (unary f e)
closed_atom (second_of_two f a) e = Some (binary f a e)
closed_atom (third_of_three f a b) e = Some (ternary f a b e)
closed_atom opened e = None

abbrev pub next_opened : Opened → Expr → Option Opened
next_opened (first_of_two f) e = Some (second_of_two f e)
next_opened (first_of_three f) e = Some (second_of_three f e)
next_opened (second_of_three f a) e = Some (third_of_three f a e)
next_opened opened e = None

-- the digits of an offset
abbrev pub near_of : ℕ → Option Near
near_of zero = Some none
near_of (suc zero) = Some one
near_of (suc (suc zero)) = Some two
near_of (suc (suc (suc n))) = None

abbrev pub offset_of : Bool → Near → Offset
offset_of true far = back far
offset_of false far = ahead far

abbrev pub in_brackets : List (Waits × Opened) → Waits → Opened → List Read → Standing
in_brackets brackets w opened done = standing ((w, opened) ∷ brackets) nothing wanted done

abbrev pub here : ℕ → Read
here k = read_at (names.Field k) (pos 0) (pos 0)

-- ---- one token

abbrev pub at_wanted : List (Waits × Opened) → Waits → List Read → Token → Option Standing
at_wanted brackets w done (token.Sum Less) = Some (standing brackets (waiting w.sums w.products (suc w.minuses)) wanted done)
at_wanted brackets w done token.Open = Some (in_brackets brackets w grouping done)
at_wanted brackets w done (token.Function f) = Some (standing brackets w (called f) done)
at_wanted brackets w done (token.Digit d) = Some (standing brackets w (behind (digit d)) done)
at_wanted brackets w done (token.Number z) = Some (standing brackets w (behind (number z)) done)
at_wanted brackets w done (token.Field k) = Some (standing brackets w (named k) done)
at_wanted brackets w done (token.Quantity q) = Some (standing brackets w (behind (quantity q)) (done ++ read_at q (pos 0) (pos 0) ∷ []))
at_wanted brackets w done t = None

abbrev pub at_called : List (Waits × Opened) → Waits → List Read → Function → Token → Option Standing
at_called brackets w done f token.Open = Some (in_brackets brackets w (opening_of f) done)
at_called brackets w done f t = None

abbrev pub column_read : List (Waits × Opened) → Waits → List Read → ℕ → Bool → Option Near → Option Standing
column_read brackets w done k m None = None
column_read brackets w done k m (Some far) = Some (standing brackets w (between k (offset_of m far)) done)

abbrev pub at_column : List (Waits × Opened) → Waits → List Read → ℕ → Bool → Token → Option Standing
at_column brackets w done k m (token.Digit d) = column_read brackets w done k m (near_of d)
at_column brackets w done k false (token.Sum Less) = Some (standing brackets w (column k true) done)
at_column brackets w done k m t = None

abbrev pub at_between : List (Waits × Opened) → Waits → List Read → ℕ → Offset → Token → Option Standing
at_between brackets w done k x token.Comma = Some (standing brackets w (row k x false) done)
at_between brackets w done k x t = None

abbrev pub row_read : List (Waits × Opened) → Waits → List Read → ℕ → Offset → Bool → Option Near → Option Standing
row_read brackets w done k x m None = None
row_read brackets w done k x m (Some far) = Some (standing brackets w (ending k x (offset_of m far)) done)

abbrev pub at_row : List (Waits × Opened) → Waits → List Read → ℕ → Offset → Bool → Token → Option Standing
at_row brackets w done k x m (token.Digit d) = row_read brackets w done k x m (near_of d)
at_row brackets w done k x false (token.Sum Less) = Some (standing brackets w (row k x true) done)
at_row brackets w done k x m t = None

abbrev pub at_ending : List (Waits × Opened) → Waits → List Read → ℕ → Offset → Offset → Token → Option Standing
at_ending brackets w done k x y token.CloseBracket =
    Some (standing brackets w (behind (neighbour k x y)) (done ++ read_at (names.Field k) (offset_number x) (offset_number y) ∷ []))
at_ending brackets w done k x y t = None

abbrev pub after_close : List (Waits × Opened) → Waits → List Read → Option Atom → Option Standing
after_close brackets w done None = None
after_close brackets w done (Some a) = Some (standing brackets w (behind a) done)

abbrev pub close : List (Waits × Opened) → List Read → Expr → Option Standing
close [] done e = None
close (b ∷ brackets) done e = after_close brackets b.0 done (closed_atom b.1 e)

abbrev pub after_comma : List (Waits × Opened) → Waits → List Read → Option Opened → Option Standing
after_comma brackets w done None = None
after_comma brackets w done (Some opened) = Some (in_brackets brackets w opened done)

abbrev pub comma : List (Waits × Opened) → List Read → Expr → Option Standing
comma [] done e = None
comma (b ∷ brackets) done e = after_comma brackets b.0 done (next_opened b.1 e)

abbrev pub at_behind : List (Waits × Opened) → Waits → List Read → Atom → Token → Option Standing
at_behind brackets w done a (token.Sum sign) = Some (standing brackets (waiting (Some (expr_at w a, sign)) None 0) wanted done)
at_behind brackets w done a (token.Product sign) = Some (standing brackets (waiting w.sums (Some (term_at w a, sign)) 0) wanted done)
at_behind brackets w done a token.Close = close brackets done (expr_at w a)
at_behind brackets w done a token.Comma = comma brackets done (expr_at w a)
at_behind brackets w done a t = None

abbrev pub at_named : List (Waits × Opened) → Waits → List Read → ℕ → Token → Option Standing
at_named brackets w done k token.OpenBracket = Some (standing brackets w (column k false) done)
at_named brackets w done k t = at_behind brackets w (done ++ here k ∷ []) (field k) t

abbrev pub advance_by : List (Waits × Opened) → Waits → List Read → Place → Token → Option Standing
advance_by brackets w done wanted t = at_wanted brackets w done t
advance_by brackets w done (called f) t = at_called brackets w done f t
advance_by brackets w done (named k) t = at_named brackets w done k t
advance_by brackets w done (column k m) t = at_column brackets w done k m t
advance_by brackets w done (between k x) t = at_between brackets w done k x t
advance_by brackets w done (row k x m) t = at_row brackets w done k x m t
advance_by brackets w done (ending k x y) t = at_ending brackets w done k x y t
advance_by brackets w done (behind a) t = at_behind brackets w done a t

-- where reading stands behind one more token, if a formula goes on with it
abbrev pub advance : Standing → Token → Option Standing
advance s t = advance_by s.brackets s.waits s.done s.place t

-- ---- many tokens

abbrev pub and_then : Option Standing → (Standing → Option Standing) → Option Standing
and_then None rest = None
and_then (Some s) rest = rest s

abbrev pub go : Standing → List Token → Option Standing
go s [] = Some s
go s (t ∷ more) = and_then (advance s t) (λ next. go next more)

abbrev pub beginning : Standing
beginning = standing [] nothing wanted []

-- A field without brackets is read whole once something else follows, or nothing.
abbrev pub settled_by : List (Waits × Opened) → Waits → List Read → Place → Standing
settled_by brackets w done (named k) = standing brackets w (behind (field k)) (done ++ here k ∷ [])
settled_by brackets w done place = standing brackets w place done

abbrev pub settled : Standing → Standing
settled s = settled_by s.brackets s.waits s.done s.place

-- the derivation that ends here, if all brackets are closed behind an operand
abbrev pub whole_by : List (Waits × Opened) → Waits → Place → Option Expr
whole_by [] w (behind a) = Some (expr_at w a)
whole_by brackets w place = None

abbrev pub whole : Standing → Option Expr
whole s = whole_by s.brackets s.waits s.place
