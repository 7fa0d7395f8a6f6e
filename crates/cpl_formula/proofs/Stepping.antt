-- One step of the reader is one step over derivations.
use Rattle.std.proofs.Common.{◌≡◌, ℕ, zero, suc, pos, Bool, true, false, List, [], ◌∷◌, ◌++◌, Option, Some, None, Result, Ok, Err, refl, sym, ap, subst, ◌∙◌, leb, arith}
use Rattle.std.proofs.lemmas.Bool.{lt-leb}
use Rattle.cpl_formula.specs.Grammar.{Expr, Atom, Offset, offset_number, input_of}
use Rattle.cpl_formula.specs.Grammar.Atom.{field}
use Rattle.cpl_formula.specs.Reads.{with_read, distinct_reads, read_at}
use Rattle.cpl_formula.specs.Steps.{At, state, state_in_bracket, split_last, step, step_by, step_after_operand, step_at_close, after_close, step_at_comma, after_comma, leaf}
use Rattle.cpl_formula.specs.declared.formula.Read.{Read}
use Rattle.cpl_formula.specs.declared.formula.ReadName.TheVariants as names
use Rattle.cpl_formula.specs.declared.state.Frame.{Frame}
use Rattle.cpl_formula.specs.declared.state.Level.{Level}
use Rattle.cpl_formula.specs.declared.state.Mode.TheVariants as mode
use Rattle.cpl_formula.specs.declared.state.Opening.{Opening}
use Rattle.cpl_formula.specs.declared.state.Part.{Part}
use Rattle.cpl_formula.specs.declared.fault.Stop.{Stop}
use Rattle.cpl_formula.specs.declared.fault.Stop.TheVariants as stop
use Rattle.cpl_formula.specs.declared.functions.Function.{Function}
use Rattle.cpl_formula.specs.declared.tokens.ProductSign.{ProductSign}
use Rattle.cpl_formula.specs.declared.tokens.SumSign.{SumSign}
use Rattle.cpl_formula.specs.declared.tokens.SumSign.TheVariants.{Less}
use Rattle.cpl_formula.specs.declared.tokens.Token.{Token}
use Rattle.cpl_formula.specs.declared.tokens.Token.TheVariants as token
use Rattle.cpl_formula.proofs.CutParts.{part_of_expr, part_of_atom}
use Rattle.cpl_formula.proofs.FinalReads.{Extends, input_same, distinct_snoc}
use Rattle.cpl_formula.proofs.Shown.{shown_level, shown_frames, shown_frame, shown_mode, shown_atom, shown_next, shown, expr_same, term_same, closed_same, next_same, opening_same, split_behind}
use Rattle.cpl_formula.proofs.Standing as standing
use Rattle.cpl_formula.proofs.Standing.{Waits, Opened, Place, Standing, here, advance, advance_by, at_wanted, at_called, at_column, at_between, at_row, at_ending, at_behind, at_named, settled, settled_by}
use Rattle.cpl_formula.proofs.Standing.Place.{wanted, called, named, column, between, row, ending}
use Rattle.cpl_formula.proofs.Standing.Place.{behind as behind_atom}

-- why reading stops at a token
abbrev pub kind_of : Place → Token → Stop
kind_of wanted token.BadNumber = stop.BadNumber
kind_of wanted token.Unknown = stop.NameUnknown
kind_of (column k minus) (token.Digit d) = stop.FarNeighbour minus
kind_of (row k x minus) (token.Digit d) = stop.FarNeighbour minus
kind_of p t = stop.Syntax

-- A step answers as it is to: it stops, or goes on with what has been read. All reads are those so far, and maybe more.
abbrev pub StepIs : List Read → List Read → Stop → Result At Stop → Option Standing → Type 0
StepIs all done stopping result None = Extends all (distinct_reads done) → result ≡ Err stopping
StepIs all done stopping result (Some next) = Extends all (distinct_reads next.done) → result ≡ Ok (distinct_reads next.done, shown all next)

-- ---- behind an operand

abbrev behind_sum : List Read → List Frame → SumSign → Part → Result At Stop
behind_sum reads frames sign part = Ok (reads, state frames (record { sum = Some (record { left = part; sign = sign }); product = None; minus = 0 }) mode.Wanted)

abbrev behind_product : List Read → List Frame → Level → ProductSign → Part → Result At Stop
behind_product reads frames level sign part = Ok (reads, state frames (record { sum = level.sum; product = Some (record { left = part; sign = sign }); minus = 0 }) mode.Wanted)

after_close_same : (all : List Read) (brackets : List (Waits × Opened)) (w : Waits) (done : List Read) (a : Option Atom)
    → StepIs all done stop.Syntax (after_close (distinct_reads done) (shown_frames all brackets) (shown_level all w) (shown_atom all a)) (standing.after_close brackets w done a)
after_close_same all brackets w done None = λ more. refl
after_close_same all brackets w done (Some a) = λ more. refl

close_same : (all : List Read) (brackets : List (Waits × Opened)) (done : List Read) (e : Expr)
    → StepIs all done stop.Syntax (step_at_close (distinct_reads done) (part_of_expr all e) (split_last (shown_frames all brackets))) (standing.close brackets done e)
close_same all [] done e = λ more. refl
close_same all (b ∷ brackets) done e =
    rw (split_behind (shown_frames all brackets) (shown_frame all b), closed_same all b.1 e) (after_close_same all brackets b.0 done (standing.closed_atom b.1 e))

after_comma_same : (all : List Read) (brackets : List (Waits × Opened)) (w : Waits) (done : List Read) (o : Option Opened)
    → StepIs all done stop.Syntax (after_comma (distinct_reads done) (shown_frames all brackets) (shown_level all w) (shown_next all o)) (standing.after_comma brackets w done o)
after_comma_same all brackets w done None = λ more. refl
after_comma_same all brackets w done (Some o) = λ more. refl

comma_same : (all : List Read) (brackets : List (Waits × Opened)) (done : List Read) (e : Expr)
    → StepIs all done stop.Syntax (step_at_comma (distinct_reads done) (part_of_expr all e) (split_last (shown_frames all brackets))) (standing.comma brackets done e)
comma_same all [] done e = λ more. refl
comma_same all (b ∷ brackets) done e =
    rw (split_behind (shown_frames all brackets) (shown_frame all b), next_same all b.1 e) (after_comma_same all brackets b.0 done (standing.next_opened b.1 e))

behind_same : (all : List Read) (brackets : List (Waits × Opened)) (w : Waits) (done : List Read) (a : Atom) (t : Token)
    → StepIs all done stop.Syntax (step_after_operand (distinct_reads done) (shown_frames all brackets) (shown_level all w) (part_of_atom all a) t) (at_behind brackets w done a t)
behind_same all brackets w done a (token.Sum sign) = λ more. ap (behind_sum (distinct_reads done) (shown_frames all brackets) sign) (expr_same all w a)
behind_same all brackets w done a (token.Product sign) = λ more. ap (behind_product (distinct_reads done) (shown_frames all brackets) (shown_level all w) sign) (term_same all w a)
behind_same all brackets w done a token.Close = rw (expr_same all w a) (close_same all brackets done (standing.expr_at w a))
behind_same all brackets w done a token.Comma = rw (expr_same all w a) (comma_same all brackets done (standing.expr_at w a))
behind_same all brackets w done a t = λ more. refl

-- ---- behind a field's name

-- a step reads nothing more whole
abbrev pub Keeps : List Read → Option Standing → Type 0
Keeps done None = Unit {0}
Keeps done (Some next) = next.done ≡ done

after_close_keeps : (brackets : List (Waits × Opened)) (w : Waits) (done : List Read) (a : Option Atom) → Keeps done (standing.after_close brackets w done a)
after_close_keeps brackets w done None = tt
after_close_keeps brackets w done (Some a) = refl

close_keeps : (brackets : List (Waits × Opened)) (done : List Read) (e : Expr) → Keeps done (standing.close brackets done e)
close_keeps [] done e = tt
close_keeps (b ∷ brackets) done e = after_close_keeps brackets b.0 done (standing.closed_atom b.1 e)

after_comma_keeps : (brackets : List (Waits × Opened)) (w : Waits) (done : List Read) (o : Option Opened) → Keeps done (standing.after_comma brackets w done o)
after_comma_keeps brackets w done None = tt
after_comma_keeps brackets w done (Some o) = refl

comma_keeps : (brackets : List (Waits × Opened)) (done : List Read) (e : Expr) → Keeps done (standing.comma brackets done e)
comma_keeps [] done e = tt
comma_keeps (b ∷ brackets) done e = after_comma_keeps brackets b.0 done (standing.next_opened b.1 e)

pub behind_keeps : (brackets : List (Waits × Opened)) (w : Waits) (done : List Read) (a : Atom) (t : Token) → Keeps done (at_behind brackets w done a t)
behind_keeps brackets w done a (token.Sum sign) = refl
behind_keeps brackets w done a (token.Product sign) = refl
behind_keeps brackets w done a token.Close = close_keeps brackets done (standing.expr_at w a)
behind_keeps brackets w done a token.Comma = comma_keeps brackets done (standing.expr_at w a)
behind_keeps brackets w done a t = tt

-- a result that is the same once all reads are at hand
instead : (all done : List Read) (stopping : Stop) (result other : Result At Stop) (o : Option Standing)
    → (Extends all (distinct_reads done) → other ≡ result) → Keeps done o → StepIs all done stopping result o → StepIs all done stopping other o
instead all done stopping result other None same keeps is = λ more. same more ∙ is more
instead all done stopping result other (Some next) same keeps is =
    λ more. same (subst (λ (reads : List Read). Extends all (distinct_reads reads)) keeps more) ∙ is more

-- the number of a read that was noted last
pub last_input : (all done : List Read) (r : Read) → Extends all (distinct_reads (done ++ r ∷ [])) → leaf (input_of (distinct_reads done) r) ≡ leaf (input_of all r)
last_input all done r more = ap leaf (input_same all (distinct_reads done) r (subst (Extends all) (distinct_snoc done r) more))

abbrev settled_done : List Read → ℕ → List Read
settled_done done k = done ++ here k ∷ []

field_same : (all : List Read) (brackets : List (Waits × Opened)) (w : Waits) (done : List Read) (k : ℕ) (t : Token)
    → StepIs all (settled_done done k) stop.Syntax (step_after_operand (with_read (distinct_reads done) (here k)) (shown_frames all brackets) (shown_level all w) (leaf (input_of (distinct_reads done) (here k))) t) (at_behind brackets w (settled_done done k) (field k) t)
field_same all brackets w done k t =
    instead all (settled_done done k) stop.Syntax
    (step_after_operand (distinct_reads (settled_done done k)) (shown_frames all brackets) (shown_level all w) (part_of_atom all (field k)) t)
    (step_after_operand (with_read (distinct_reads done) (here k)) (shown_frames all brackets) (shown_level all w) (leaf (input_of (distinct_reads done) (here k))) t)
    (at_behind brackets w (settled_done done k) (field k) t)
    (λ more. λ i. step_after_operand (sym (distinct_snoc done (here k)) i) (shown_frames all brackets) (shown_level all w) (last_input all done (here k) more i) t)
    (behind_keeps brackets w (settled_done done k) (field k) t)
    (behind_same all brackets w (settled_done done k) (field k) t)

named_same : (all : List Read) (brackets : List (Waits × Opened)) (w : Waits) (done : List Read) (k : ℕ) (t : Token)
    → StepIs all (settled_done done k) stop.Syntax (step_by (distinct_reads done) (shown_frames all brackets) (shown_level all w) (mode.Named k) t) (at_named brackets w done k t)
named_same all brackets w done k token.OpenBracket = λ more. refl
named_same all brackets w done k t = field_same all brackets w done k t

-- ---- elsewhere

abbrev noted_behind : List Frame → Level → Part → List Read → Result At Stop
noted_behind frames level part reads = Ok (reads, state frames level (mode.Behind part))

-- behind a read
read_same : (all : List Read) (frames : List Frame) (level : Level) (done : List Read) (r : Read) → Extends all (distinct_reads (done ++ r ∷ []))
    → noted_behind frames level (leaf (input_of (distinct_reads done) r)) (with_read (distinct_reads done) r) ≡ noted_behind frames level (leaf (input_of all r)) (distinct_reads (done ++ r ∷ []))
read_same all frames level done r more = λ i. noted_behind frames level (last_input all done r more i) (sym (distinct_snoc done r) i)

wanted_same : (all : List Read) (brackets : List (Waits × Opened)) (w : Waits) (done : List Read) (t : Token)
    → StepIs all done (kind_of wanted t) (step_by (distinct_reads done) (shown_frames all brackets) (shown_level all w) mode.Wanted t) (at_wanted brackets w done t)
wanted_same all brackets w done (token.Sum Less) = λ more. refl
wanted_same all brackets w done token.Open = λ more. refl
wanted_same all brackets w done (token.Function f) = λ more. refl
wanted_same all brackets w done (token.Digit d) = λ more. refl
wanted_same all brackets w done (token.Number z) = λ more. refl
wanted_same all brackets w done (token.Field k) = λ more. refl
wanted_same all brackets w done (token.Quantity q) = λ more. read_same all (shown_frames all brackets) (shown_level all w) done (read_at q (pos 0) (pos 0)) more
wanted_same all brackets w done t = λ more. refl

abbrev opened_as : List Read → List Frame → Level → Opening → Result At Stop
opened_as reads frames level opening = Ok (reads, state_in_bracket frames level opening)

called_same : (all : List Read) (brackets : List (Waits × Opened)) (w : Waits) (done : List Read) (f : Function) (t : Token)
    → StepIs all done stop.Syntax (step_by (distinct_reads done) (shown_frames all brackets) (shown_level all w) (mode.Called f) t) (at_called brackets w done f t)
called_same all brackets w done f token.Open = λ more. ap (opened_as (distinct_reads done) (shown_frames all brackets) (shown_level all w)) (opening_same all f)
called_same all brackets w done f t = λ more. refl

too_far : (n : ℕ) → leb (suc (suc (suc n))) 2 ≡ false
too_far n = lt-leb (suc (suc (suc n))) 2 (omega arith)

column_digit_same : (all : List Read) (brackets : List (Waits × Opened)) (w : Waits) (done : List Read) (k : ℕ) (minus : Bool) (d : ℕ)
    → StepIs all done (stop.FarNeighbour minus) (step_by (distinct_reads done) (shown_frames all brackets) (shown_level all w) (mode.Column k minus) (token.Digit d)) (at_column brackets w done k minus (token.Digit d))
column_digit_same all brackets w done k true zero = λ more. refl
column_digit_same all brackets w done k false zero = λ more. refl
column_digit_same all brackets w done k true (suc zero) = λ more. refl
column_digit_same all brackets w done k false (suc zero) = λ more. refl
column_digit_same all brackets w done k true (suc (suc zero)) = λ more. refl
column_digit_same all brackets w done k false (suc (suc zero)) = λ more. refl
column_digit_same all brackets w done k minus (suc (suc (suc n))) = λ more. rw (too_far n) refl

column_same : (all : List Read) (brackets : List (Waits × Opened)) (w : Waits) (done : List Read) (k : ℕ) (minus : Bool) (t : Token)
    → StepIs all done (kind_of (column k minus) t) (step_by (distinct_reads done) (shown_frames all brackets) (shown_level all w) (mode.Column k minus) t) (at_column brackets w done k minus t)
column_same all brackets w done k minus (token.Digit d) = column_digit_same all brackets w done k minus d
column_same all brackets w done k false (token.Sum Less) = λ more. refl
column_same all brackets w done k minus t = λ more. refl

between_same : (all : List Read) (brackets : List (Waits × Opened)) (w : Waits) (done : List Read) (k : ℕ) (x : Offset) (t : Token)
    → StepIs all done stop.Syntax (step_by (distinct_reads done) (shown_frames all brackets) (shown_level all w) (mode.Between k (offset_number x)) t) (at_between brackets w done k x t)
between_same all brackets w done k x token.Comma = λ more. refl
between_same all brackets w done k x t = λ more. refl

row_digit_same : (all : List Read) (brackets : List (Waits × Opened)) (w : Waits) (done : List Read) (k : ℕ) (x : Offset) (minus : Bool) (d : ℕ)
    → StepIs all done (stop.FarNeighbour minus) (step_by (distinct_reads done) (shown_frames all brackets) (shown_level all w) (mode.Row k (offset_number x) minus) (token.Digit d)) (at_row brackets w done k x minus (token.Digit d))
row_digit_same all brackets w done k x true zero = λ more. refl
row_digit_same all brackets w done k x false zero = λ more. refl
row_digit_same all brackets w done k x true (suc zero) = λ more. refl
row_digit_same all brackets w done k x false (suc zero) = λ more. refl
row_digit_same all brackets w done k x true (suc (suc zero)) = λ more. refl
row_digit_same all brackets w done k x false (suc (suc zero)) = λ more. refl
row_digit_same all brackets w done k x minus (suc (suc (suc n))) = λ more. rw (too_far n) refl

row_same : (all : List Read) (brackets : List (Waits × Opened)) (w : Waits) (done : List Read) (k : ℕ) (x : Offset) (minus : Bool) (t : Token)
    → StepIs all done (kind_of (row k x minus) t) (step_by (distinct_reads done) (shown_frames all brackets) (shown_level all w) (mode.Row k (offset_number x) minus) t) (at_row brackets w done k x minus t)
row_same all brackets w done k x minus (token.Digit d) = row_digit_same all brackets w done k x minus d
row_same all brackets w done k x false (token.Sum Less) = λ more. refl
row_same all brackets w done k x minus t = λ more. refl

ending_same : (all : List Read) (brackets : List (Waits × Opened)) (w : Waits) (done : List Read) (k : ℕ) (x y : Offset) (t : Token)
    → StepIs all done stop.Syntax (step_by (distinct_reads done) (shown_frames all brackets) (shown_level all w) (mode.Ending k (offset_number x) (offset_number y)) t) (at_ending brackets w done k x y t)
ending_same all brackets w done k x y token.CloseBracket = λ more. read_same all (shown_frames all brackets) (shown_level all w) done (read_at (names.Field k) (offset_number x) (offset_number y)) more
ending_same all brackets w done k x y t = λ more. refl

step_same_by : (all : List Read) (brackets : List (Waits × Opened)) (w : Waits) (done : List Read) (p : Place) (t : Token)
    → StepIs all (settled_by brackets w done p).done (kind_of p t) (step_by (distinct_reads done) (shown_frames all brackets) (shown_level all w) (shown_mode all p) t) (advance_by brackets w done p t)
step_same_by all brackets w done wanted t = wanted_same all brackets w done t
step_same_by all brackets w done (called f) t = called_same all brackets w done f t
step_same_by all brackets w done (named k) t = named_same all brackets w done k t
step_same_by all brackets w done (column k minus) t = column_same all brackets w done k minus t
step_same_by all brackets w done (between k x) t = between_same all brackets w done k x t
step_same_by all brackets w done (row k x minus) t = row_same all brackets w done k x minus t
step_same_by all brackets w done (ending k x y) t = ending_same all brackets w done k x y t
step_same_by all brackets w done (behind_atom a) t = behind_same all brackets w done a t

-- one step
pub step_same : (all : List Read) (s : Standing) (t : Token) → StepIs all (settled s).done (kind_of s.place t) (step (distinct_reads s.done) (shown all s) t) (advance s t)
step_same all s t = step_same_by all s.brackets s.waits s.done s.place t
