-- Reading goes over what a derivation spells, and stands behind its last atom.
use Rattle.std.proofs.Common.{◌≡◌, ℕ, zero, suc, false, List, [], ◌∷◌, ◌++◌, Option, Some, None, refl, ap, ◌∙◌}
use Rattle.std.proofs.lemmas.List.{append_assoc, append-nil}
use Rattle.cpl_formula.specs.Grammar.{Expr, Term, Factor, Atom, Offset, yield_of_expr, yield_of_term, yield_of_factor, yield_of_atom, yield_of_offset, reads_of_expr, reads_of_term, reads_of_factor, reads_of_atom}
use Rattle.cpl_formula.specs.Grammar.Expr.{term, sum}
use Rattle.cpl_formula.specs.Grammar.Term.{factor, product}
use Rattle.cpl_formula.specs.Grammar.Factor.{minus, atom}
use Rattle.cpl_formula.specs.Grammar.Atom.{digit, number, quantity, field, neighbour, group, unary, binary, ternary}
use Rattle.cpl_formula.specs.Grammar.Near.{none, one, two}
use Rattle.cpl_formula.specs.Grammar.Offset.{ahead, back}
use Rattle.cpl_formula.specs.declared.formula.Read.{Read}
use Rattle.cpl_formula.specs.declared.tokens.ProductSign.{ProductSign}
use Rattle.cpl_formula.specs.declared.tokens.SumSign.{SumSign}
use Rattle.cpl_formula.specs.declared.tokens.Token.{Token}
use Rattle.cpl_formula.specs.declared.tokens.Token.TheVariants as token
use Rattle.cpl_formula.proofs.Standing.Opened.{grouping, only_of, first_of_two, second_of_two, first_of_three, second_of_three, third_of_three}
use Rattle.cpl_formula.proofs.Standing.Place.{wanted, named, column, between, row, ending, behind}
use Rattle.cpl_formula.proofs.Standing.{Standing, Waits, Opened, standing, waiting, nothing, in_brackets, negated, term_at, expr_at, here, closed_atom, next_opened, go, settled}

-- ---- a derivation as an atom, and what waits before it

-- how many minus signs wait behind those of a factor
abbrev pub added : Factor → ℕ → ℕ
added (minus f) n = added f (suc n)
added (atom a) n = n

abbrev pub last_of : Factor → Atom
last_of (minus f) = last_of f
last_of (atom a) = a

abbrev pub product_of : Term → Option (Term × ProductSign)
product_of (factor f) = None
product_of (product t sign f) = Some (t, sign)

abbrev pub factor_of : Term → Factor
factor_of (factor f) = f
factor_of (product t sign f) = f

abbrev pub sum_of : Expr → Option (Expr × SumSign)
sum_of (term t) = None
sum_of (sum e sign t) = Some (e, sign)

abbrev pub term_of : Expr → Term
term_of (term t) = t
term_of (sum e sign t) = t

-- so many minus signs in front of a factor
abbrev minuses : ℕ → Factor → Factor
minuses zero f = f
minuses (suc n) f = minus (minuses n f)

minus_first : (n : ℕ) (f : Factor) → minus (minuses n f) ≡ minuses n (minus f)
minus_first zero f = refl
minus_first (suc n) f = ap minus (minus_first n f)

negated_atom : (n : ℕ) (a : Atom) → negated n a ≡ minuses n (atom a)
negated_atom zero a = refl
negated_atom (suc n) a = ap minus (negated_atom n a)

factor_again : (f : Factor) (n : ℕ) → negated (added f n) (last_of f) ≡ minuses n f
factor_again (minus f) n = factor_again f (suc n) ∙ minus_first n f
factor_again (atom a) n = negated_atom n a

-- what waits where a term was read, and where an expression was
abbrev pub term_waits : Option (Expr × SumSign) → Term → Waits
term_waits sums t = waiting sums (product_of t) (added (factor_of t) 0)

abbrev pub expr_waits : Expr → Waits
expr_waits e = term_waits (sum_of e) (term_of e)

abbrev pub expr_last : Expr → Atom
expr_last e = last_of (factor_of (term_of e))

pub term_again : (sums : Option (Expr × SumSign)) (t : Term) → term_at (term_waits sums t) (last_of (factor_of t)) ≡ t
term_again sums (factor f) = ap factor (factor_again f 0)
term_again sums (product t sign f) = ap (product t sign) (factor_again f 0)

pub expr_again : (e : Expr) → expr_at (expr_waits e) (expr_last e) ≡ e
expr_again (term t) = ap term (term_again None t)
expr_again (sum e sign t) = ap (sum e sign) (term_again (Some (e, sign)) t)

-- ---- reading to where a field without brackets counts as read

abbrev pub settle : Option Standing → Option Standing
settle None = None
settle (Some s) = Some (settled s)

abbrev pub run : Standing → List Token → Option Standing
run s ts = settle (go s ts)

-- what may follow an atom
abbrev pub Follows : List Token → Type 0
Follows [] = Unit {0}
Follows (token.OpenBracket ∷ more) = ⊥
Follows (t ∷ more) = Unit {0}

run_field : (brackets : List (Waits × Opened)) (w : Waits) (done : List Read) (k : ℕ) (rest : List Token) → Follows rest → run (standing brackets w (named k) done) rest ≡ run (standing brackets w (behind (field k)) (done ++ here k ∷ [])) rest
run_field brackets w done k (token.OpenBracket ∷ more) follows = absurd follows
run_field brackets w done k (t ∷ more) follows = refl
run_field brackets w done k [] follows = refl

run_column : (brackets : List (Waits × Opened)) (w : Waits) (done : List Read) (k : ℕ) (x : Offset) (rest : List Token) → run (standing brackets w (column k false) done) (yield_of_offset x ++ rest) ≡ run (standing brackets w (between k x) done) rest
run_column brackets w done k (ahead none) rest = refl
run_column brackets w done k (ahead one) rest = refl
run_column brackets w done k (ahead two) rest = refl
run_column brackets w done k (back none) rest = refl
run_column brackets w done k (back one) rest = refl
run_column brackets w done k (back two) rest = refl

run_row : (brackets : List (Waits × Opened)) (w : Waits) (done : List Read) (k : ℕ) (x y : Offset) (rest : List Token) → run (standing brackets w (row k x false) done) (yield_of_offset y ++ rest) ≡ run (standing brackets w (ending k x y) done) rest
run_row brackets w done k x (ahead none) rest = refl
run_row brackets w done k x (ahead one) rest = refl
run_row brackets w done k x (ahead two) rest = refl
run_row brackets w done k x (back none) rest = refl
run_row brackets w done k x (back one) rest = refl
run_row brackets w done k x (back two) rest = refl

run_neighbour : (brackets : List (Waits × Opened)) (w : Waits) (done : List Read) (k : ℕ) (x y : Offset) (rest : List Token) → run (standing brackets w wanted done) (yield_of_atom (neighbour k x y) ++ rest) ≡ run (standing brackets w (behind (neighbour k x y)) (done ++ reads_of_atom (neighbour k x y))) rest
run_neighbour brackets w done k x y rest =
    ap (run (standing brackets w (column k false) done)) (append_assoc (yield_of_offset x) (token.Comma ∷ (yield_of_offset y ++ token.CloseBracket ∷ [])) rest)
    ∙ (run_column brackets w done k x (token.Comma ∷ ((yield_of_offset y ++ token.CloseBracket ∷ []) ++ rest))
    ∙ (ap (run (standing brackets w (row k x false) done)) (append_assoc (yield_of_offset y) (token.CloseBracket ∷ []) rest)
    ∙ run_row brackets w done k x y (token.CloseBracket ∷ rest)))

-- reading goes over an expression, from where nothing waits
abbrev Inside : List (Waits × Opened) → List Read → Expr → List Token → Type 0
Inside brackets done e rest = run (standing brackets nothing wanted done) (yield_of_expr e ++ rest) ≡ run (standing brackets (expr_waits e) (behind (expr_last e)) (done ++ reads_of_expr e)) rest

read_closed : (brackets : List (Waits × Opened)) (w : Waits) (opened : Opened) (done : List Read) (e : Expr) (a : Atom) (rest : List Token) → closed_atom opened e ≡ Some a → Inside ((w, opened) ∷ brackets) done e (token.Close ∷ rest) → run (in_brackets brackets w opened done) (yield_of_expr e ++ token.Close ∷ [] ++ rest) ≡ run (standing brackets w (behind a) (done ++ reads_of_expr e)) rest
read_closed brackets w opened done e a rest closes inside = rw (append_assoc, inside, expr_again e, closes)

read_comma : (brackets : List (Waits × Opened)) (w : Waits) (opened : Opened) (done : List Read) (e : Expr) (next : Opened) (more rest : List Token) → next_opened opened e ≡ Some next → Inside ((w, opened) ∷ brackets) done e (token.Comma ∷ (more ++ rest)) → run (in_brackets brackets w opened done) (yield_of_expr e ++ (token.Comma ∷ more) ++ rest) ≡ run (in_brackets brackets w next (done ++ reads_of_expr e)) (more ++ rest)
read_comma brackets w opened done e next more rest continues inside = rw (append_assoc, inside, expr_again e, continues)

-- ---- the tokens of a derivation

mutual
  pub run_expr : (e : Expr) (brackets : List (Waits × Opened)) (done : List Read) (rest : List Token) → Follows rest → run (standing brackets nothing wanted done) (yield_of_expr e ++ rest) ≡ run (standing brackets (expr_waits e) (behind (expr_last e)) (done ++ reads_of_expr e)) rest
  run_expr (term t) brackets done rest follows = run_term t brackets None done rest follows
  run_expr (sum e sign t) brackets done rest follows =
      rw (append_assoc, run_expr e brackets done (token.Sum sign ∷ (yield_of_term t ++ rest)) tt, expr_again e, run_term t brackets (Some (e, sign)) (done ++ reads_of_expr e) rest follows, append_assoc)

  pub run_term : (t : Term) (brackets : List (Waits × Opened)) (sums : Option (Expr × SumSign)) (done : List Read) (rest : List Token) → Follows rest → run (standing brackets (waiting sums None 0) wanted done) (yield_of_term t ++ rest) ≡ run (standing brackets (term_waits sums t) (behind (last_of (factor_of t))) (done ++ reads_of_term t)) rest
  run_term (factor f) brackets sums done rest follows = run_factor f brackets sums None 0 done rest follows
  run_term (product t sign f) brackets sums done rest follows =
      rw (append_assoc, run_term t brackets sums done (token.Product sign ∷ (yield_of_factor f ++ rest)) tt, term_again sums t, run_factor f brackets sums (Some (t, sign)) 0 (done ++ reads_of_term t) rest follows, append_assoc)

  pub run_factor : (f : Factor) (brackets : List (Waits × Opened)) (sums : Option (Expr × SumSign)) (products : Option (Term × ProductSign)) (n : ℕ) (done : List Read) (rest : List Token) → Follows rest → run (standing brackets (waiting sums products n) wanted done) (yield_of_factor f ++ rest) ≡ run (standing brackets (waiting sums products (added f n)) (behind (last_of f)) (done ++ reads_of_factor f)) rest
  run_factor (minus f) brackets sums products n done rest follows = run_factor f brackets sums products (suc n) done rest follows
  run_factor (atom a) brackets sums products n done rest follows = run_atom a brackets (waiting sums products n) done rest follows

  pub run_atom : (a : Atom) (brackets : List (Waits × Opened)) (w : Waits) (done : List Read) (rest : List Token) → Follows rest → run (standing brackets w wanted done) (yield_of_atom a ++ rest) ≡ run (standing brackets w (behind a) (done ++ reads_of_atom a)) rest
  run_atom (digit d) brackets w done rest follows = rw append-nil
  run_atom (number z) brackets w done rest follows = rw append-nil
  run_atom (quantity q) brackets w done rest follows = refl
  run_atom (field k) brackets w done rest follows = run_field brackets w done k rest follows
  run_atom (neighbour k x y) brackets w done rest follows = run_neighbour brackets w done k x y rest
  run_atom (group e) brackets w done rest follows =
      read_closed brackets w grouping done e (group e) rest refl (run_expr e ((w, grouping) ∷ brackets) done (token.Close ∷ rest) tt)
  run_atom (unary f e) brackets w done rest follows =
      read_closed brackets w (only_of f) done e (unary f e) rest refl (run_expr e ((w, only_of f) ∷ brackets) done (token.Close ∷ rest) tt)
  run_atom (binary f a b) brackets w done rest follows =
      read_comma brackets w (first_of_two f) done a (second_of_two f a) (yield_of_expr b ++ token.Close ∷ []) rest refl (run_expr a ((w, first_of_two f) ∷ brackets) done _ tt)
      ∙ (read_closed brackets w (second_of_two f a) (done ++ reads_of_expr a) b (binary f a b) rest refl (run_expr b ((w, second_of_two f a) ∷ brackets) (done ++ reads_of_expr a) (token.Close ∷ rest) tt)
      ∙ ap (λ reads. run (standing brackets w (behind (binary f a b)) reads) rest) (append_assoc done (reads_of_expr a) (reads_of_expr b)))
  run_atom (ternary f a b c) brackets w done rest follows =
      read_comma brackets w (first_of_three f) done a (second_of_three f a) (yield_of_expr b ++ (token.Comma ∷ (yield_of_expr c ++ token.Close ∷ []))) rest refl (run_expr a ((w, first_of_three f) ∷ brackets) done _ tt)
      ∙ (read_comma brackets w (second_of_three f a) (done ++ reads_of_expr a) b (third_of_three f a b) (yield_of_expr c ++ token.Close ∷ []) rest refl (run_expr b ((w, second_of_three f a) ∷ brackets) (done ++ reads_of_expr a) _ tt)
      ∙ (read_closed brackets w (third_of_three f a b) (done ++ reads_of_expr a ++ reads_of_expr b) c (ternary f a b c) rest refl (run_expr c ((w, third_of_three f a b) ∷ brackets) (done ++ reads_of_expr a ++ reads_of_expr b) (token.Close ∷ rest) tt)
      ∙ ap (λ reads. run (standing brackets w (behind (ternary f a b c)) reads) rest) (simp append_assoc)))
