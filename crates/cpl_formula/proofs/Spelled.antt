-- The tokens that were read where reading stands somewhere, and that they are those that it went over.
use Rattle.std.proofs.Common.{◌≡◌, ℕ, zero, suc, Bool, true, false, List, [], ◌∷◌, ◌++◌, Option, Some, None, refl, ap, sym, ◌∙◌, subst}
use Rattle.std.proofs.lemmas.List.{append_assoc, append-nil}
use Rattle.cpl_formula.specs.Grammar.{Expr, Term, Factor, Atom, Offset, yield_of_expr, yield_of_term, yield_of_factor, yield_of_atom, yield_of_offset}
use Rattle.cpl_formula.specs.Grammar.Atom.{field}
use Rattle.cpl_formula.specs.declared.formula.Read.{Read}
use Rattle.cpl_formula.specs.declared.functions.Function.{Function}
use Rattle.cpl_formula.specs.declared.functions.Function.TheVariants as function
use Rattle.cpl_formula.specs.declared.tokens.ProductSign.{ProductSign}
use Rattle.cpl_formula.specs.declared.tokens.SumSign.{SumSign}
use Rattle.cpl_formula.specs.declared.tokens.SumSign.TheVariants.{Less}
use Rattle.cpl_formula.specs.declared.tokens.Token.{Token}
use Rattle.cpl_formula.specs.declared.tokens.Token.TheVariants as token
use Rattle.cpl_formula.proofs.Standing.Opened.{grouping, only_of, first_of_two, second_of_two, first_of_three, second_of_three, third_of_three}
use Rattle.cpl_formula.proofs.Standing.Place.{wanted, called, named, column, between, row, ending, behind}
use Rattle.cpl_formula.proofs.Standing.{Standing, Waits, Opened, Place, standing, negated, with_product, with_sum, expr_at, term_at, here, at_wanted, at_called, at_named, at_column, at_between, at_row, at_ending, at_behind, close, comma, advance, advance_by, and_then, go, settled, whole}

-- ---- what was read

abbrev pub yield_of_sum : Option (Expr × SumSign) → List Token
yield_of_sum None = []
yield_of_sum (Some s) = yield_of_expr s.0 ++ token.Sum s.1 ∷ []

abbrev pub yield_of_product : Option (Term × ProductSign) → List Token
yield_of_product None = []
yield_of_product (Some p) = yield_of_term p.0 ++ token.Product p.1 ∷ []

abbrev pub minus_signs : ℕ → List Token
minus_signs zero = []
minus_signs (suc n) = token.Sum Less ∷ minus_signs n

abbrev pub yield_of_waits : Waits → List Token
yield_of_waits w = yield_of_sum w.sums ++ (yield_of_product w.products ++ minus_signs w.minuses)

abbrev pub yield_of_opened : Opened → List Token
yield_of_opened grouping = token.Open ∷ []
yield_of_opened (only_of f) = token.Function (function.Unary f) ∷ token.Open ∷ []
yield_of_opened (first_of_two f) = token.Function (function.Binary f) ∷ token.Open ∷ []
yield_of_opened (second_of_two f a) = token.Function (function.Binary f) ∷ token.Open ∷ (yield_of_expr a ++ token.Comma ∷ [])
yield_of_opened (first_of_three f) = token.Function (function.Ternary f) ∷ token.Open ∷ []
yield_of_opened (second_of_three f a) = token.Function (function.Ternary f) ∷ token.Open ∷ (yield_of_expr a ++ token.Comma ∷ [])
yield_of_opened (third_of_three f a b) =
    token.Function (function.Ternary f) ∷ token.Open ∷ (yield_of_expr a ++ (token.Comma ∷ (yield_of_expr b ++ token.Comma ∷ [])))

abbrev pub yield_of_brackets : List (Waits × Opened) → List Token
yield_of_brackets [] = []
yield_of_brackets (b ∷ brackets) = yield_of_brackets brackets ++ (yield_of_waits b.0 ++ yield_of_opened b.1)

abbrev pub minus_if : Bool → List Token
minus_if true = token.Sum Less ∷ []
minus_if false = []

abbrev pub yield_of_place : Place → List Token
yield_of_place wanted = []
yield_of_place (called f) = token.Function f ∷ []
yield_of_place (named k) = token.Field k ∷ []
yield_of_place (column k m) = token.Field k ∷ token.OpenBracket ∷ minus_if m
yield_of_place (between k x) = token.Field k ∷ token.OpenBracket ∷ yield_of_offset x
yield_of_place (row k x m) = token.Field k ∷ token.OpenBracket ∷ (yield_of_offset x ++ (token.Comma ∷ minus_if m))
yield_of_place (ending k x y) = token.Field k ∷ token.OpenBracket ∷ (yield_of_offset x ++ (token.Comma ∷ yield_of_offset y))
yield_of_place (behind a) = yield_of_atom a

abbrev pub spelled : Standing → List Token
spelled s = yield_of_brackets s.brackets ++ (yield_of_waits s.waits ++ yield_of_place s.place)

-- ---- what waits, and an atom

minus_last : (n : ℕ) → token.Sum Less ∷ minus_signs n ≡ minus_signs n ++ token.Sum Less ∷ []
minus_last zero = refl
minus_last (suc n) = ap (λ ts. token.Sum Less ∷ ts) (minus_last n)

yield_of_negated : (n : ℕ) (a : Atom) → yield_of_factor (negated n a) ≡ minus_signs n ++ yield_of_atom a
yield_of_negated zero a = refl
yield_of_negated (suc n) a = ap (λ ts. token.Sum Less ∷ ts) (yield_of_negated n a)

yield_of_with_product : (p : Option (Term × ProductSign)) (f : Factor) → yield_of_term (with_product p f) ≡ yield_of_product p ++ yield_of_factor f
yield_of_with_product None f = refl
yield_of_with_product (Some p) f = simp append_assoc

yield_of_with_sum : (s : Option (Expr × SumSign)) (t : Term) → yield_of_expr (with_sum s t) ≡ yield_of_sum s ++ yield_of_term t
yield_of_with_sum None t = refl
yield_of_with_sum (Some s) t = simp append_assoc

yield_of_term_at : (w : Waits) (a : Atom) → yield_of_term (term_at w a) ≡ yield_of_product w.products ++ (minus_signs w.minuses ++ yield_of_atom a)
yield_of_term_at w a = yield_of_with_product w.products (negated w.minuses a) ∙ ap (λ ts. yield_of_product w.products ++ ts) (yield_of_negated w.minuses a)

yield_of_expr_at : (w : Waits) (a : Atom) → yield_of_expr (expr_at w a) ≡ yield_of_waits w ++ yield_of_atom a
yield_of_expr_at w a = yield_of_with_sum w.sums (term_at w a) ∙ rw (yield_of_term_at w a) (simp append_assoc)

-- ---- one token

-- a standing that there is spells these tokens
abbrev pub Spells : List Token → Option Standing → Type 0
Spells tokens None = Unit {0}
Spells tokens (Some next) = spelled next ≡ tokens

wanted_spells : (brackets : List (Waits × Opened)) (w : Waits) (done : List Read) (t : Token) → Spells (spelled (standing brackets w wanted done) ++ t ∷ []) (at_wanted brackets w done t)
wanted_spells brackets w done (token.Sum Less) = rw (minus_last w.minuses) (simp (append_assoc, append-nil))
wanted_spells brackets w done token.Open = simp (append_assoc, append-nil)
wanted_spells brackets w done (token.Function f) = simp (append_assoc, append-nil)
wanted_spells brackets w done (token.Digit d) = simp (append_assoc, append-nil)
wanted_spells brackets w done (token.Number z) = simp (append_assoc, append-nil)
wanted_spells brackets w done (token.Field k) = simp (append_assoc, append-nil)
wanted_spells brackets w done (token.Quantity q) = simp (append_assoc, append-nil)
wanted_spells brackets w done t = tt

called_spells : (brackets : List (Waits × Opened)) (w : Waits) (done : List Read) (f : Function) (t : Token) → Spells (spelled (standing brackets w (called f) done) ++ t ∷ []) (at_called brackets w done f t)
called_spells brackets w done (function.Unary f) token.Open = simp (append_assoc, append-nil)
called_spells brackets w done (function.Binary f) token.Open = simp (append_assoc, append-nil)
called_spells brackets w done (function.Ternary f) token.Open = simp (append_assoc, append-nil)
called_spells brackets w done f t = tt

column_spells : (brackets : List (Waits × Opened)) (w : Waits) (done : List Read) (k : ℕ) (m : Bool) (t : Token) → Spells (spelled (standing brackets w (column k m) done) ++ t ∷ []) (at_column brackets w done k m t)
column_spells brackets w done k true (token.Digit zero) = simp append_assoc
column_spells brackets w done k false (token.Digit zero) = simp append_assoc
column_spells brackets w done k true (token.Digit (suc zero)) = simp append_assoc
column_spells brackets w done k false (token.Digit (suc zero)) = simp append_assoc
column_spells brackets w done k true (token.Digit (suc (suc zero))) = simp append_assoc
column_spells brackets w done k false (token.Digit (suc (suc zero))) = simp append_assoc
column_spells brackets w done k false (token.Sum Less) = simp append_assoc
column_spells brackets w done k m t = tt

between_spells : (brackets : List (Waits × Opened)) (w : Waits) (done : List Read) (k : ℕ) (x : Offset) (t : Token) → Spells (spelled (standing brackets w (between k x) done) ++ t ∷ []) (at_between brackets w done k x t)
between_spells brackets w done k x token.Comma = simp append_assoc
between_spells brackets w done k x t = tt

row_spells : (brackets : List (Waits × Opened)) (w : Waits) (done : List Read) (k : ℕ) (x : Offset) (m : Bool) (t : Token) → Spells (spelled (standing brackets w (row k x m) done) ++ t ∷ []) (at_row brackets w done k x m t)
row_spells brackets w done k x true (token.Digit zero) = simp append_assoc
row_spells brackets w done k x false (token.Digit zero) = simp append_assoc
row_spells brackets w done k x true (token.Digit (suc zero)) = simp append_assoc
row_spells brackets w done k x false (token.Digit (suc zero)) = simp append_assoc
row_spells brackets w done k x true (token.Digit (suc (suc zero))) = simp append_assoc
row_spells brackets w done k x false (token.Digit (suc (suc zero))) = simp append_assoc
row_spells brackets w done k x false (token.Sum Less) = simp append_assoc
row_spells brackets w done k x m t = tt

ending_spells : (brackets : List (Waits × Opened)) (w : Waits) (done : List Read) (k : ℕ) (x y : Offset) (t : Token) → Spells (spelled (standing brackets w (ending k x y) done) ++ t ∷ []) (at_ending brackets w done k x y t)
ending_spells brackets w done k x y token.CloseBracket = simp append_assoc
ending_spells brackets w done k x y t = tt

close_spells : (brackets : List (Waits × Opened)) (done : List Read) (e : Expr) → Spells (yield_of_brackets brackets ++ (yield_of_expr e ++ token.Close ∷ [])) (close brackets done e)
close_spells ((w, grouping) ∷ brackets) done e = simp append_assoc
close_spells ((w, only_of f) ∷ brackets) done e = simp append_assoc
close_spells ((w, second_of_two f a) ∷ brackets) done e = simp append_assoc
close_spells ((w, third_of_three f a b) ∷ brackets) done e = simp append_assoc
close_spells ((w, opened) ∷ brackets) done e = tt
close_spells [] done e = tt

comma_spells : (brackets : List (Waits × Opened)) (done : List Read) (e : Expr) → Spells (yield_of_brackets brackets ++ (yield_of_expr e ++ token.Comma ∷ [])) (comma brackets done e)
comma_spells ((w, first_of_two f) ∷ brackets) done e = simp (append_assoc, append-nil)
comma_spells ((w, first_of_three f) ∷ brackets) done e = simp (append_assoc, append-nil)
comma_spells ((w, second_of_three f a) ∷ brackets) done e = simp (append_assoc, append-nil)
comma_spells ((w, opened) ∷ brackets) done e = tt
comma_spells [] done e = tt

-- tokens behind an expression of which an atom is the last
behind_then : (brackets : List (Waits × Opened)) (w : Waits) (a : Atom) (t : Token) → yield_of_brackets brackets ++ (yield_of_expr (expr_at w a) ++ t ∷ []) ≡ yield_of_brackets brackets ++ (yield_of_waits w ++ yield_of_atom a) ++ t ∷ []
behind_then brackets w a t = rw (yield_of_expr_at w a) (simp append_assoc)

behind_spells : (brackets : List (Waits × Opened)) (w : Waits) (done : List Read) (a : Atom) (t : Token) → Spells (yield_of_brackets brackets ++ (yield_of_waits w ++ yield_of_atom a) ++ t ∷ []) (at_behind brackets w done a t)
behind_spells brackets w done a (token.Sum sign) = rw (yield_of_expr_at w a) (simp (append_assoc, append-nil))
behind_spells brackets w done a (token.Product sign) = rw (yield_of_term_at w a) (simp (append_assoc, append-nil))
behind_spells brackets w done a token.Close =
    subst (λ tokens. Spells tokens (close brackets done (expr_at w a))) (behind_then brackets w a token.Close) (close_spells brackets done (expr_at w a))
behind_spells brackets w done a token.Comma =
    subst (λ tokens. Spells tokens (comma brackets done (expr_at w a))) (behind_then brackets w a token.Comma) (comma_spells brackets done (expr_at w a))
behind_spells brackets w done a t = tt

named_spells : (brackets : List (Waits × Opened)) (w : Waits) (done : List Read) (k : ℕ) (t : Token) → Spells (spelled (standing brackets w (named k) done) ++ t ∷ []) (at_named brackets w done k t)
named_spells brackets w done k token.OpenBracket = simp append_assoc
named_spells brackets w done k t = behind_spells brackets w (done ++ here k ∷ []) (field k) t

place_spells : (brackets : List (Waits × Opened)) (w : Waits) (done : List Read) (place : Place) (t : Token) → Spells (spelled (standing brackets w place done) ++ t ∷ []) (advance_by brackets w done place t)
place_spells brackets w done wanted t = wanted_spells brackets w done t
place_spells brackets w done (called f) t = called_spells brackets w done f t
place_spells brackets w done (named k) t = named_spells brackets w done k t
place_spells brackets w done (column k m) t = column_spells brackets w done k m t
place_spells brackets w done (between k x) t = between_spells brackets w done k x t
place_spells brackets w done (row k x m) t = row_spells brackets w done k x m t
place_spells brackets w done (ending k x y) t = ending_spells brackets w done k x y t
place_spells brackets w done (behind a) t = behind_spells brackets w done a t

-- ---- many tokens

then_spells : (ts : List Token) (t : Token) (s : Standing) (next : Option Standing) → Spells (spelled s ++ t ∷ []) next → ((n end : Standing) → go n ts ≡ Some end → spelled end ≡ spelled n ++ ts) → (end : Standing) → and_then next (λ n. go n ts) ≡ Some end → spelled end ≡ spelled s ++ (t ∷ ts)
then_spells ts t s None spells rest end goes = cc
then_spells ts t s (Some n) spells rest end goes = rw (rest n end goes, spells) (simp append_assoc)

pub go_spells : (ts : List Token) (s end : Standing) → go s ts ≡ Some end → spelled end ≡ spelled s ++ ts
go_spells [] s end goes = let same : s ≡ end = cc in rw append-nil (ap spelled (sym same))
go_spells (t ∷ ts) s end goes =
    then_spells ts t s (advance s t) (place_spells s.brackets s.waits s.done s.place t) (λ n. go_spells ts n) end goes

-- a derivation that is whole was spelled
whole_at : (brackets : List (Waits × Opened)) (w : Waits) (done : List Read) (place : Place) (e : Expr) → whole (settled (standing brackets w place done)) ≡ Some e → spelled (standing brackets w place done) ≡ yield_of_expr e
whole_at [] w done (behind a) e is = let same : expr_at w a ≡ e = cc in rw (← same) (sym (yield_of_expr_at w a))
whole_at [] w done (named k) e is = let same : expr_at w (field k) ≡ e = cc in rw (← same) (sym (yield_of_expr_at w (field k)))
whole_at brackets w done (named k) e is = cc
whole_at brackets w done place e is = cc

pub whole_spells : (s : Standing) (e : Expr) → whole (settled s) ≡ Some e → spelled s ≡ yield_of_expr e
whole_spells s e is = whole_at s.brackets s.waits s.done s.place e is
