-- Reading over more tokens, and that from wherever it stands a formula can be ended.
use Rattle.std.proofs.Common.{◌≡◌, ℕ, Bool, false, List, [], ◌∷◌, ◌++◌, Option, Some, None, refl, ap, ◌∙◌}
use Rattle.cpl_formula.specs.Grammar.{Expr, Atom, Offset}
use Rattle.cpl_formula.specs.Grammar.Atom.{digit, neighbour, group, unary, binary, ternary}
use Rattle.cpl_formula.specs.Grammar.Near.{none}
use Rattle.cpl_formula.specs.Grammar.Expr.{term}
use Rattle.cpl_formula.specs.Grammar.Term.{factor}
use Rattle.cpl_formula.specs.Grammar.Factor.{atom}
use Rattle.cpl_formula.specs.declared.formula.Read.{Read}
use Rattle.cpl_formula.specs.declared.tokens.Token.{Token}
use Rattle.cpl_formula.specs.declared.tokens.Token.TheVariants as token
use Rattle.cpl_formula.specs.declared.tokens.SumSign.TheVariants.{Plus}
use Rattle.cpl_formula.proofs.Standing.Opened.{grouping, only_of, first_of_two, second_of_two, first_of_three, second_of_three, third_of_three}
use Rattle.cpl_formula.proofs.Standing.Place.{wanted, called, named, column, between, row, ending, behind}
use Rattle.cpl_formula.proofs.Standing.{Standing, Waits, Opened, Place, standing, expr_at, offset_of, opening_of, advance, and_then, go, settled, whole}

-- ---- more tokens

then_append : (next : Option Standing) (ts more : List Token) → ((n : Standing) → go n (ts ++ more) ≡ and_then (go n ts) (λ m. go m more)) → and_then next (λ n. go n (ts ++ more)) ≡ and_then (and_then next (λ n. go n ts)) (λ m. go m more)
then_append None ts more rest = refl
then_append (Some n) ts more rest = rest n

go_append : (ts more : List Token) (s : Standing) → go s (ts ++ more) ≡ and_then (go s ts) (λ n. go n more)
go_append [] more s = refl
go_append (t ∷ ts) more s = then_append (advance s t) ts more (go_append ts more)

-- and where some of it was gone over, the rest is
pub go_over : (ts more : List Token) (s next : Standing) → go s ts ≡ Some next → go s (ts ++ more) ≡ go next more
go_over ts more s next goes = go_append ts more s ∙ ap (λ n. and_then n (λ m. go m more)) goes

alone : (next : Option Standing) → and_then next (λ n. Some n) ≡ next
alone None = refl
alone (Some n) = refl

pub go_one : (s : Standing) (t : Token) → go s (t ∷ []) ≡ advance s t
go_one s t = alone (advance s t)

-- what is gone over at first, where all of it is
first : (next : Option Standing) (more : List Token) (end : Standing) → and_then next (λ n. go n more) ≡ Some end → (n : Standing) × (next ≡ Some n)
first None more end goes = absurd (cc)
first (Some n) more end goes = (n, refl)

pub go_first : (ts more : List Token) (s end : Standing) → go s (ts ++ more) ≡ Some end → (n : Standing) × (go s ts ≡ Some n)
go_first ts more s end goes = first (go s ts) more end (rw go_append at goes)

-- ---- an end

-- a formula ends behind more tokens
pub record Ends (s : Standing) : Type 0 where
  pub more : List Token
  pub end : Standing
  pub expr : Expr
  pub goes : go s more ≡ Some end
  pub is_whole : whole (settled end) ≡ Some expr

onward : (s : Standing) (t : Token) (next : Standing) → advance s t ≡ Some next → Ends next → Ends s
onward s t next goes ends = record { more = t ∷ ends.more; end = ends.end; expr = ends.expr; goes = rw goes ends.goes; is_whole = ends.is_whole }

-- a number for whatever part is still to come
abbrev filler : Expr
filler = term (factor (atom (digit 0)))

ends_behind : (brackets : List (Waits × Opened)) (w : Waits) (done : List Read) (a : Atom) → Ends (standing brackets w (behind a) done)
ends_behind [] w done a = record { more = []; end = standing [] w (behind a) done; expr = expr_at w a; goes = refl; is_whole = refl }
ends_behind ((v, grouping) ∷ brackets) w done a = onward _ token.Close _ refl (ends_behind brackets v done (group (expr_at w a)))
ends_behind ((v, only_of f) ∷ brackets) w done a = onward _ token.Close _ refl (ends_behind brackets v done (unary f (expr_at w a)))
ends_behind ((v, second_of_two f x) ∷ brackets) w done a = onward _ token.Close _ refl (ends_behind brackets v done (binary f x (expr_at w a)))
ends_behind ((v, third_of_three f x y) ∷ brackets) w done a = onward _ token.Close _ refl (ends_behind brackets v done (ternary f x y (expr_at w a)))
ends_behind ((v, first_of_two f) ∷ brackets) w done a = onward _ token.Comma _ refl (onward _ (token.Digit 0) _ refl (onward _ token.Close _ refl (ends_behind brackets v done (binary f (expr_at w a) filler))))
ends_behind ((v, second_of_three f x) ∷ brackets) w done a = onward _ token.Comma _ refl (onward _ (token.Digit 0) _ refl (onward _ token.Close _ refl (ends_behind brackets v done (ternary f x (expr_at w a) filler))))
ends_behind ((v, first_of_three f) ∷ brackets) w done a =
    onward _ token.Comma _ refl (onward _ (token.Digit 0) _ refl (onward _ token.Comma _ refl (onward _ (token.Digit 0) _ refl (onward _ token.Close _ refl (ends_behind brackets v done (ternary f (expr_at w a) filler filler))))))

ends_wanted : (brackets : List (Waits × Opened)) (w : Waits) (done : List Read) → Ends (standing brackets w wanted done)
ends_wanted brackets w done = onward _ (token.Digit 0) _ refl (ends_behind brackets w done (digit 0))

ends_ending : (brackets : List (Waits × Opened)) (w : Waits) (done : List Read) (k : ℕ) (x y : Offset) → Ends (standing brackets w (ending k x y) done)
ends_ending brackets w done k x y = onward _ token.CloseBracket _ refl (ends_behind brackets w _ (neighbour k x y))

ends_row : (brackets : List (Waits × Opened)) (w : Waits) (done : List Read) (k : ℕ) (x : Offset) (m : Bool) → Ends (standing brackets w (row k x m) done)
ends_row brackets w done k x m = onward _ (token.Digit 0) _ refl (ends_ending brackets w done k x (offset_of m none))

ends_between : (brackets : List (Waits × Opened)) (w : Waits) (done : List Read) (k : ℕ) (x : Offset) → Ends (standing brackets w (between k x) done)
ends_between brackets w done k x = onward _ token.Comma _ refl (ends_row brackets w done k x false)

ends_at : (brackets : List (Waits × Opened)) (w : Waits) (done : List Read) (place : Place) → Ends (standing brackets w place done)
ends_at brackets w done wanted = ends_wanted brackets w done
ends_at brackets w done (called f) = onward _ token.Open _ refl (ends_wanted ((w, opening_of f) ∷ brackets) _ done)
ends_at brackets w done (named k) = onward _ (token.Sum Plus) _ refl (ends_wanted brackets _ _)
ends_at brackets w done (column k m) = onward _ (token.Digit 0) _ refl (ends_between brackets w done k (offset_of m none))
ends_at brackets w done (between k x) = ends_between brackets w done k x
ends_at brackets w done (row k x m) = ends_row brackets w done k x m
ends_at brackets w done (ending k x y) = ends_ending brackets w done k x y
ends_at brackets w done (behind a) = ends_behind brackets w done a

pub ends : (s : Standing) → Ends s
ends s = ends_at s.brackets s.waits s.done s.place
