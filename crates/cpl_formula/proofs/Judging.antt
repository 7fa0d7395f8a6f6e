-- The fault at which the reader stops is the one that the definition judges, and there is one such fault.
use Rattle.std.proofs.Common.{◌≡◌, ℕ, Bool, true, false, inl, inr, List, [], ◌∷◌, ◌++◌, Option, Some, None, refl, sym, ap, subst, ◌∙◌}
use Rattle.std.specs.Prelude.{fold}
use Rattle.cpl_formula.specs.Formulas.{kinds, IsViable, TakesAtoms, IsWhere, IsFaultOf, minus_or, begin_of_offset}
use Rattle.cpl_formula.specs.Grammar.{Expr, Atom, Near, Offset}
use Rattle.cpl_formula.specs.Grammar.Atom.{field}
use Rattle.cpl_formula.specs.Steps.{fault_at}
use Rattle.cpl_formula.specs.Tokens.{Placed}
use Rattle.cpl_formula.specs.declared.fault.FormulaFault.{FormulaFault}
use Rattle.cpl_formula.specs.declared.fault.FormulaFault.TheVariants as faults
use Rattle.cpl_formula.specs.declared.formula.Read.{Read}
use Rattle.cpl_formula.specs.declared.tokens.SumSign.TheVariants.{Plus, Less}
use Rattle.cpl_formula.specs.declared.tokens.Token.{Token}
use Rattle.cpl_formula.specs.declared.tokens.Token.TheVariants as token
use Rattle.cpl_formula.proofs.Facts.{begins_go, go_begins, wanted_takes, takes_wanted, go_snoc}
use Rattle.cpl_formula.proofs.Standing as standing
use Rattle.cpl_formula.proofs.Standing.{Waits, Opened, Place, Standing, here, advance, advance_by, and_then, beginning, go, at_wanted, at_behind, at_named, near_of}
use Rattle.cpl_formula.proofs.Standing.Place.{wanted, called, named, column, between, row, ending, behind}
use Rattle.cpl_formula.proofs.Stepping.{kind_of}
use Rattle.cpl_formula.proofs.Walking.{last_place}

-- ---- where an offset begins

-- Where an offset begins whose digit comes next, as the place says it. `begin` gives it for the digit's own place.
abbrev pub Fits : Place → (ℕ → ℕ) → ℕ → Type 0
Fits (column k true) begin last = (at : ℕ) → begin at ≡ last
Fits (column k false) begin last = (at : ℕ) → begin at ≡ at
Fits (row k x true) begin last = (at : ℕ) → begin at ≡ last
Fits (row k x false) begin last = (at : ℕ) → begin at ≡ at
Fits p begin last = Unit {0}

abbrev FitsNext : Option Standing → (ℕ → ℕ) → ℕ → Type 0
FitsNext None begin last = Unit {0}
FitsNext (Some next) begin last = Fits next.place begin last

after_close_fits : (brackets : List (Waits × Opened)) (w : Waits) (done : List Read) (a : Option Atom) (begin : ℕ → ℕ) (last : ℕ)
    → FitsNext (standing.after_close brackets w done a) begin last
after_close_fits brackets w done None begin last = tt
after_close_fits brackets w done (Some a) begin last = tt

close_fits : (brackets : List (Waits × Opened)) (done : List Read) (e : Expr) (begin : ℕ → ℕ) (last : ℕ) → FitsNext (standing.close brackets done e) begin last
close_fits [] done e begin last = tt
close_fits (b ∷ brackets) done e begin last = after_close_fits brackets b.0 done (standing.closed_atom b.1 e) begin last

after_comma_fits : (brackets : List (Waits × Opened)) (w : Waits) (done : List Read) (o : Option Opened) (begin : ℕ → ℕ) (last : ℕ)
    → FitsNext (standing.after_comma brackets w done o) begin last
after_comma_fits brackets w done None begin last = tt
after_comma_fits brackets w done (Some o) begin last = tt

comma_fits : (brackets : List (Waits × Opened)) (done : List Read) (e : Expr) (begin : ℕ → ℕ) (last : ℕ) → FitsNext (standing.comma brackets done e) begin last
comma_fits [] done e begin last = tt
comma_fits (b ∷ brackets) done e begin last = after_comma_fits brackets b.0 done (standing.next_opened b.1 e) begin last

behind_fits : (brackets : List (Waits × Opened)) (w : Waits) (done : List Read) (a : Atom) (t : Token) (begin : ℕ → ℕ) (last : ℕ)
    → FitsNext (at_behind brackets w done a t) begin last
behind_fits brackets w done a token.Close begin last = close_fits brackets done (standing.expr_at w a) begin last
behind_fits brackets w done a token.Comma begin last = comma_fits brackets done (standing.expr_at w a) begin last
behind_fits brackets w done a t begin last = tt

wanted_fits : (brackets : List (Waits × Opened)) (w : Waits) (done : List Read) (t : Token) (begin : ℕ → ℕ) (last : ℕ) → FitsNext (at_wanted brackets w done t) begin last
wanted_fits brackets w done (token.Sum Plus) begin last = tt
wanted_fits brackets w done (token.Sum Less) begin last = tt
wanted_fits brackets w done t begin last = tt

named_fits : (brackets : List (Waits × Opened)) (w : Waits) (done : List Read) (k : ℕ) (t : Token) (last : ℕ)
    → FitsNext (at_named brackets w done k t) (minus_or t last) last
named_fits brackets w done k token.OpenBracket last = λ at. refl
named_fits brackets w done k t last = behind_fits brackets w (done ++ here k ∷ []) (field k) t (minus_or t last) last

column_fits : (brackets : List (Waits × Opened)) (w : Waits) (done : List Read) (k : ℕ) (minus : Bool) (far : Option Near) (begin : ℕ → ℕ) (last : ℕ)
    → FitsNext (standing.column_read brackets w done k minus far) begin last
column_fits brackets w done k minus None begin last = tt
column_fits brackets w done k minus (Some far) begin last = tt

row_fits : (brackets : List (Waits × Opened)) (w : Waits) (done : List Read) (k : ℕ) (x : Offset) (minus : Bool) (far : Option Near) (begin : ℕ → ℕ) (last : ℕ)
    → FitsNext (standing.row_read brackets w done k x minus far) begin last
row_fits brackets w done k x minus None begin last = tt
row_fits brackets w done k x minus (Some far) begin last = tt

advance_fits : (brackets : List (Waits × Opened)) (w : Waits) (done : List Read) (p : Place) (t : Token) (last : ℕ)
    → FitsNext (advance_by brackets w done p t) (minus_or t last) last
advance_fits brackets w done wanted t last = wanted_fits brackets w done t (minus_or t last) last
advance_fits brackets w done (called f) token.Open last = tt
advance_fits brackets w done (called f) t last = tt
advance_fits brackets w done (named k) t last = named_fits brackets w done k t last
advance_fits brackets w done (column k minus) (token.Digit d) last = column_fits brackets w done k minus (near_of d) (minus_or (token.Digit d) last) last
advance_fits brackets w done (column k false) (token.Sum Less) last = λ at. refl
advance_fits brackets w done (column k minus) t last = tt
advance_fits brackets w done (between k x) token.Comma last = λ at. refl
advance_fits brackets w done (between k x) t last = tt
advance_fits brackets w done (row k x minus) (token.Digit d) last = row_fits brackets w done k x minus (near_of d) (minus_or (token.Digit d) last) last
advance_fits brackets w done (row k x false) (token.Sum Less) last = λ at. refl
advance_fits brackets w done (row k x minus) t last = tt
advance_fits brackets w done (ending k x y) token.CloseBracket last = tt
advance_fits brackets w done (ending k x y) t last = tt
advance_fits brackets w done (behind a) t last = behind_fits brackets w done a t (minus_or t last) last

-- where an offset begins behind more tokens
abbrev begin_behind : (ℕ → ℕ) → List Placed → ℕ → ℕ
begin_behind begin ts at = fold (λ begin t. minus_or t.token t.at at) (begin at) ts

fits_by : (t : Placed) (ts : List Placed) (final : Standing) (o : Option Standing) → FitsNext o (minus_or t.token t.at) t.at
    → and_then o (λ next. go next (kinds ts)) ≡ Some final
    → ((next : Standing) → Fits next.place (minus_or t.token t.at) t.at → go next (kinds ts) ≡ Some final → Fits final.place (begin_behind (minus_or t.token t.at) ts) (last_place t.at ts))
    → Fits final.place (begin_behind (minus_or t.token t.at) ts) (last_place t.at ts)
fits_by t ts final None fits goes rest = absurd (cc)
fits_by t ts final (Some next) fits goes rest = rest next fits goes

fits_over : (ts : List Placed) (s final : Standing) (begin : ℕ → ℕ) (last : ℕ) → Fits s.place begin last → go s (kinds ts) ≡ Some final
    → Fits final.place (begin_behind begin ts) (last_place last ts)
fits_over [] s final begin last fits goes =
    let same : s ≡ final = cc in
    subst (λ (end : Standing). Fits end.place begin last) same fits
fits_over (t ∷ ts) s final begin last fits goes =
    fits_by t ts final (advance s t.token) (advance_fits s.brackets s.waits s.done s.place t.token t.at) goes (λ next there. fits_over ts next final (minus_or t.token t.at) t.at there)

-- ---- which fault

bad_number_judged : (front : List Placed) (at before : ℕ) (s : Standing) (p : Place) → go beginning (kinds front) ≡ Some s → s.place ≡ p
    → IsWhere (TakesAtoms (kinds front)) (faults.BadNumber at) (faults.Syntax at) (fault_at (kind_of p token.BadNumber) before at)
bad_number_judged front at before s wanted goes is = inl (wanted_takes (kinds front) s goes is, refl)
bad_number_judged front at before s p goes is = inr (λ takes. let stands : s.place ≡ wanted = takes_wanted (kinds front) s goes takes in cc, refl)

unknown_judged : (front : List Placed) (at before : ℕ) (s : Standing) (p : Place) → go beginning (kinds front) ≡ Some s → s.place ≡ p
    → IsWhere (TakesAtoms (kinds front)) (faults.NameUnknown at) (faults.Syntax at) (fault_at (kind_of p token.Unknown) before at)
unknown_judged front at before s wanted goes is = inl (wanted_takes (kinds front) s goes is, refl)
unknown_judged front at before s p goes is = inr (λ takes. let stands : s.place ≡ wanted = takes_wanted (kinds front) s goes takes in cc, refl)

-- whether reading goes on with an offset's digit
digit_goes : (front : List Placed) (s : Standing) (p : Place) (o : Option Standing) → go beginning (kinds front) ≡ Some s → s.place ≡ p
    → advance_by s.brackets s.waits s.done p (token.Digit 0) ≡ o → go beginning (kinds front ++ token.Digit 0 ∷ []) ≡ o
digit_goes front s p o goes is next = go_snoc beginning (kinds front) (token.Digit 0) s goes ∙ ap (λ (q : Place). advance_by s.brackets s.waits s.done q (token.Digit 0)) is ∙ next

no_digit : (front : List Placed) (s : Standing) (p : Place) → go beginning (kinds front) ≡ Some s → s.place ≡ p
    → advance_by s.brackets s.waits s.done p (token.Digit 0) ≡ None → IsViable (kinds front ++ token.Digit 0 ∷ []) → ⊥
no_digit front s p goes is stops begins =
    let more = begins_go (kinds front ++ token.Digit 0 ∷ []) begins in
    let none : go beginning (kinds front ++ token.Digit 0 ∷ []) ≡ None = digit_goes front s p None goes is stops in
    let some : go beginning (kinds front ++ token.Digit 0 ∷ []) ≡ Some more.0 = more.1 in
    cc

digit_judged : (front : List Placed) (at before d : ℕ) (s : Standing) (p : Place) → go beginning (kinds front) ≡ Some s → s.place ≡ p
    → advance_by s.brackets s.waits s.done p (token.Digit d) ≡ None → Fits p (begin_of_offset front) before
    → IsWhere (IsViable (kinds front ++ token.Digit 0 ∷ [])) (faults.FarNeighbour (begin_of_offset front at)) (faults.Syntax at) (fault_at (kind_of p (token.Digit d)) before at)
digit_judged front at before d s wanted goes is stops fits = absurd (cc)
digit_judged front at before d s (column k true) goes is stops fits =
    inl (go_begins (kinds front ++ token.Digit 0 ∷ []) _ (digit_goes front s (column k true) _ goes is refl), sym (ap faults.FarNeighbour (fits at)))
digit_judged front at before d s (column k false) goes is stops fits =
    inl (go_begins (kinds front ++ token.Digit 0 ∷ []) _ (digit_goes front s (column k false) _ goes is refl), sym (ap faults.FarNeighbour (fits at)))
digit_judged front at before d s (row k x true) goes is stops fits =
    inl (go_begins (kinds front ++ token.Digit 0 ∷ []) _ (digit_goes front s (row k x true) _ goes is refl), sym (ap faults.FarNeighbour (fits at)))
digit_judged front at before d s (row k x false) goes is stops fits =
    inl (go_begins (kinds front ++ token.Digit 0 ∷ []) _ (digit_goes front s (row k x false) _ goes is refl), sym (ap faults.FarNeighbour (fits at)))
digit_judged front at before d s p goes is stops fits = inr (no_digit front s p goes is refl, refl)

judged_by : (front : List Placed) (at before : ℕ) (s : Standing) (p : Place) (t : Token) → go beginning (kinds front) ≡ Some s → s.place ≡ p
    → advance_by s.brackets s.waits s.done p t ≡ None → Fits p (begin_of_offset front) before
    → IsFaultOf front at t (fault_at (kind_of p t) before at)
judged_by front at before s p token.BadNumber goes is stops fits = bad_number_judged front at before s p goes is
judged_by front at before s p token.Unknown goes is stops fits = unknown_judged front at before s p goes is
judged_by front at before s p (token.Digit d) goes is stops fits = digit_judged front at before d s p goes is stops fits
judged_by front at before s wanted t goes is stops fits = refl
judged_by front at before s (column k m) t goes is stops fits = refl
judged_by front at before s (row k x m) t goes is stops fits = refl
judged_by front at before s p t goes is stops fits = refl

-- the fault at which reading stops behind these tokens
pub judged : (front : List Placed) (at : ℕ) (t : Token) (s : Standing) → go beginning (kinds front) ≡ Some s → advance s t ≡ None
    → IsFaultOf front at t (fault_at (kind_of s.place t) (last_place 0 front) at)
judged front at t s goes stops =
    judged_by front at (last_place 0 front) s s.place t goes refl stops (fits_over front beginning s (λ (at : ℕ). at) 0 tt goes)

-- ---- one fault

is_where_one : (P : Type 0) (x y f g : FormulaFault) → IsWhere P x y f → IsWhere P x y g → f ≡ g
is_where_one P x y f g (inl a) (inl b) = a.1 ∙ sym b.1
is_where_one P x y f g (inl a) (inr b) = absurd (b.0 a.0)
is_where_one P x y f g (inr a) (inl b) = absurd (a.0 b.0)
is_where_one P x y f g (inr a) (inr b) = a.1 ∙ sym b.1

pub judged_one : (front : List Placed) (at : ℕ) (t : Token) (f g : FormulaFault) → IsFaultOf front at t f → IsFaultOf front at t g → f ≡ g
judged_one front at token.BadNumber f g a b = is_where_one (TakesAtoms (kinds front)) (faults.BadNumber at) (faults.Syntax at) f g a b
judged_one front at token.Unknown f g a b = is_where_one (TakesAtoms (kinds front)) (faults.NameUnknown at) (faults.Syntax at) f g a b
judged_one front at (token.Digit d) f g a b = is_where_one (IsViable (kinds front ++ token.Digit 0 ∷ [])) (faults.FarNeighbour (begin_of_offset front at)) (faults.Syntax at) f g a b
judged_one front at t f g a b = a ∙ sym b
