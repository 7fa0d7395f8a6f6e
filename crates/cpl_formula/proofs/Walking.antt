-- Many steps of the reader are many steps over derivations, and where they stop.
use Rattle.std.proofs.Common.{◌≡◌, ℕ, Bool, false, List, [], ◌∷◌, ◌++◌, Option, Some, None, Result, Err, refl, sym, ap, subst, ◌∙◌}
use Rattle.cpl_formula.specs.Formulas.{kinds}
use Rattle.cpl_formula.specs.Grammar.{Near, Offset}
use Rattle.cpl_formula.specs.Grammar.Atom.{field}
use Rattle.cpl_formula.specs.Reads.{distinct_reads}
use Rattle.cpl_formula.specs.Steps.{At, walk, continuation, step, fault_at}
use Rattle.cpl_formula.specs.Tokens.{Placed}
use Rattle.cpl_formula.specs.declared.formula.Read.{Read}
use Rattle.cpl_formula.specs.declared.fault.Stop.{Stop}
use Rattle.cpl_formula.specs.declared.tokens.Token.{Token}
use Rattle.cpl_formula.specs.declared.tokens.Token.TheVariants as token
use Rattle.cpl_formula.specs.declared.tokens.SumSign.TheVariants.{Less}
use Rattle.cpl_formula.proofs.FinalReads.{Extends, extends_self, extends_through, extends_noted, distinct_snoc}
use Rattle.cpl_formula.proofs.Shown.{shown}
use Rattle.cpl_formula.proofs.Stepping.{StepIs, Keeps, behind_keeps, kind_of, step_same}
use Rattle.cpl_formula.proofs.Standing as standing
use Rattle.cpl_formula.proofs.Standing.{Waits, Opened, Place, Standing, here, advance, advance_by, and_then, go, at_wanted, at_behind, at_named, near_of, settled, settled_by}
use Rattle.cpl_formula.proofs.Standing.Place.{wanted, called, named, column, between, row, ending, behind}

-- ---- reads only grow

-- the reads of what comes next are those so far, and maybe more
abbrev Grows : List Read → Option Standing → Type 0
Grows done None = Unit {0}
Grows done (Some next) = Extends (distinct_reads next.done) (distinct_reads done)

grown : (done : List Read) (r : Read) → Extends (distinct_reads (done ++ r ∷ [])) (distinct_reads done)
grown done r = subst (λ (reads : List Read). Extends reads (distinct_reads done)) (sym (distinct_snoc done r)) (extends_noted (distinct_reads done) r)

kept_grows : (done new : List Read) (o : Option Standing) → Extends (distinct_reads new) (distinct_reads done) → Keeps new o → Grows done o
kept_grows done new None grows keeps = tt
kept_grows done new (Some next) grows keeps = subst (λ (reads : List Read). Extends (distinct_reads reads) (distinct_reads done)) (sym keeps) grows

wanted_grows : (brackets : List (Waits × Opened)) (w : Waits) (done : List Read) (t : Token) → Grows done (at_wanted brackets w done t)
wanted_grows brackets w done (token.Sum Less) = extends_self (distinct_reads done)
wanted_grows brackets w done token.Open = extends_self (distinct_reads done)
wanted_grows brackets w done (token.Function f) = extends_self (distinct_reads done)
wanted_grows brackets w done (token.Digit d) = extends_self (distinct_reads done)
wanted_grows brackets w done (token.Number z) = extends_self (distinct_reads done)
wanted_grows brackets w done (token.Field k) = extends_self (distinct_reads done)
wanted_grows brackets w done (token.Quantity q) = grown done _
wanted_grows brackets w done t = tt

named_grows : (brackets : List (Waits × Opened)) (w : Waits) (done : List Read) (k : ℕ) (t : Token) → Grows done (at_named brackets w done k t)
named_grows brackets w done k token.OpenBracket = extends_self (distinct_reads done)
named_grows brackets w done k t =
    kept_grows done (done ++ here k ∷ []) (at_behind brackets w (done ++ here k ∷ []) (field k) t) (grown done (here k)) (behind_keeps brackets w (done ++ here k ∷ []) (field k) t)

column_grows : (brackets : List (Waits × Opened)) (w : Waits) (done : List Read) (k : ℕ) (minus : Bool) (far : Option Near)
    → Grows done (standing.column_read brackets w done k minus far)
column_grows brackets w done k minus None = tt
column_grows brackets w done k minus (Some far) = extends_self (distinct_reads done)

row_grows : (brackets : List (Waits × Opened)) (w : Waits) (done : List Read) (k : ℕ) (x : Offset) (minus : Bool) (far : Option Near)
    → Grows done (standing.row_read brackets w done k x minus far)
row_grows brackets w done k x minus None = tt
row_grows brackets w done k x minus (Some far) = extends_self (distinct_reads done)

advance_grows : (brackets : List (Waits × Opened)) (w : Waits) (done : List Read) (p : Place) (t : Token) → Grows done (advance_by brackets w done p t)
advance_grows brackets w done wanted t = wanted_grows brackets w done t
advance_grows brackets w done (called f) token.Open = extends_self (distinct_reads done)
advance_grows brackets w done (called f) t = tt
advance_grows brackets w done (named k) t = named_grows brackets w done k t
advance_grows brackets w done (column k minus) (token.Digit d) = column_grows brackets w done k minus (near_of d)
advance_grows brackets w done (column k false) (token.Sum Less) = extends_self (distinct_reads done)
advance_grows brackets w done (column k minus) t = tt
advance_grows brackets w done (between k x) token.Comma = extends_self (distinct_reads done)
advance_grows brackets w done (between k x) t = tt
advance_grows brackets w done (row k x minus) (token.Digit d) = row_grows brackets w done k x minus (near_of d)
advance_grows brackets w done (row k x false) (token.Sum Less) = extends_self (distinct_reads done)
advance_grows brackets w done (row k x minus) t = tt
advance_grows brackets w done (ending k x y) token.CloseBracket = grown done _
advance_grows brackets w done (ending k x y) t = tt
advance_grows brackets w done (behind a) t = kept_grows done done (at_behind brackets w done a t) (extends_self (distinct_reads done)) (behind_keeps brackets w done a t)

go_grows_by : (ts : List Token) (s final : Standing) (o : Option Standing) → Grows s.done o → and_then o (λ next. go next ts) ≡ Some final
    → ((next : Standing) → go next ts ≡ Some final → Extends (distinct_reads final.done) (distinct_reads next.done))
    → Extends (distinct_reads final.done) (distinct_reads s.done)
go_grows_by ts s final None grows goes rest = absurd (cc)
go_grows_by ts s final (Some next) grows goes rest = extends_through (distinct_reads final.done) (distinct_reads next.done) (distinct_reads s.done) (rest next goes) grows

go_grows : (ts : List Token) (s final : Standing) → go s ts ≡ Some final → Extends (distinct_reads final.done) (distinct_reads s.done)
go_grows [] s final goes =
    let same : s ≡ final = cc in
    subst (λ (end : Standing). Extends (distinct_reads end.done) (distinct_reads s.done)) same (extends_self (distinct_reads s.done))
go_grows (t ∷ ts) s final goes =
    go_grows_by ts s final (advance s t) (advance_grows s.brackets s.waits s.done s.place t) goes (λ next. go_grows ts next final)

-- ---- many steps

-- the place of the last token
abbrev pub last_place : ℕ → List Placed → ℕ
last_place before [] = before
last_place before (t ∷ ts) = last_place t.at ts

walk_by : (all : List Read) (t : Placed) (ts rest : List Placed) (s final : Standing) (before : ℕ) (o : Option Standing)
    → StepIs all (settled s).done (kind_of s.place t.token) (step (distinct_reads s.done) (shown all s) t.token) o
    → and_then o (λ next. go next (kinds ts)) ≡ Some final → Extends all (distinct_reads final.done)
    → ((next : Standing) → go next (kinds ts) ≡ Some final → walk t.at (distinct_reads next.done, shown all next) (ts ++ rest) ≡ walk (last_place t.at ts) (distinct_reads final.done, shown all final) rest)
    → continuation before t.at (step (distinct_reads s.done) (shown all s) t.token) (λ next. walk t.at next (ts ++ rest)) ≡ walk (last_place t.at ts) (distinct_reads final.done, shown all final) rest
walk_by all t ts rest s final before None is goes more after = absurd (cc)
walk_by all t ts rest s final before (Some next) is goes more after =
    let enough = extends_through all (distinct_reads final.done) (distinct_reads next.done) more (go_grows (kinds ts) next final goes) in
    ap (λ (r : Result At Stop). continuation before t.at r (λ (next : At). walk t.at next (ts ++ rest))) (is enough) ∙ after next goes

pub walk_over : (all : List Read) (ts rest : List Placed) (s final : Standing) (before : ℕ) → go s (kinds ts) ≡ Some final
    → Extends all (distinct_reads final.done)
    → walk before (distinct_reads s.done, shown all s) (ts ++ rest) ≡ walk (last_place before ts) (distinct_reads final.done, shown all final) rest
walk_over all [] rest s final before goes more =
    let same : s ≡ final = cc in
    ap (λ (end : Standing). walk before (distinct_reads end.done, shown all end) rest) same
walk_over all (t ∷ ts) rest s final before goes more =
    walk_by all t ts rest s final before (advance s t.token) (step_same all s t.token) goes more (λ next there. walk_over all ts rest next final t.at there more)

-- the token at which reading stops
stop_by : (all : List Read) (t : Placed) (rest : List Placed) (s : Standing) (before : ℕ) (o : Option Standing)
    → StepIs all (settled s).done (kind_of s.place t.token) (step (distinct_reads s.done) (shown all s) t.token) o → o ≡ None
    → Extends all (distinct_reads (settled s).done)
    → walk before (distinct_reads s.done, shown all s) (t ∷ rest) ≡ Err (fault_at (kind_of s.place t.token) before t.at)
stop_by all t rest s before None is stops more = ap (λ (r : Result At Stop). continuation before t.at r (λ (next : At). walk t.at next rest)) (is more)
stop_by all t rest s before (Some next) is stops more = absurd (cc)

settled_grows_by : (brackets : List (Waits × Opened)) (w : Waits) (done : List Read) (p : Place) → Extends (distinct_reads (settled_by brackets w done p).done) (distinct_reads done)
settled_grows_by brackets w done (named k) = grown done (here k)
settled_grows_by brackets w done p = extends_self (distinct_reads done)

pub settled_grows : (s : Standing) → Extends (distinct_reads (settled s).done) (distinct_reads s.done)
settled_grows s = settled_grows_by s.brackets s.waits s.done s.place

pub walk_stops : (front : List Placed) (t : Placed) (rest : List Placed) (s end : Standing) (before : ℕ) → go s (kinds front) ≡ Some end
    → advance end t.token ≡ None
    → walk before (distinct_reads s.done, shown (distinct_reads (settled end).done) s) (front ++ t ∷ rest) ≡ Err (fault_at (kind_of end.place t.token) (last_place before front) t.at)
walk_stops front t rest s end before goes stops =
    let all = distinct_reads (settled end).done in
    walk_over all front (t ∷ rest) s end before goes (settled_grows end) ∙ stop_by all t rest end (last_place before front) (advance end t.token) (step_same all end t.token) stops (extends_self all)

-- ---- through, or to a stop

pub data Run (s : Standing) (tokens : List Placed) : Type 0 where
  through : (final : Standing) → go s (kinds tokens) ≡ Some final → Run s tokens
  stopped : (front : List Placed) (t : Placed) (rest : List Placed) (end : Standing) → tokens ≡ front ++ (t ∷ rest) → go s (kinds front) ≡ Some end → advance end t.token ≡ None → Run s tokens

run_after : (s : Standing) (t : Placed) (ts : List Placed) (next : Standing) → advance s t.token ≡ Some next → Run next ts → Run s (t ∷ ts)
run_after s t ts next e (through final goes) = through final (ap (λ (o : Option Standing). and_then o (λ (next : Standing). go next (kinds ts))) e ∙ goes)
run_after s t ts next e (stopped front u rest end parted goes stops) =
    stopped (t ∷ front) u rest end (ap (λ (more : List Placed). t ∷ more) parted) (ap (λ (o : Option Standing). and_then o (λ (next : Standing). go next (kinds front))) e ∙ goes) stops

run_by : (s : Standing) (t : Placed) (ts : List Placed) (o : Option Standing) → advance s t.token ≡ o → ((next : Standing) → Run next ts) → Run s (t ∷ ts)
run_by s t ts None e rest = stopped [] t ts s refl refl e
run_by s t ts (Some next) e rest = run_after s t ts next e (rest next)

pub run : (tokens : List Placed) (s : Standing) → Run s tokens
run [] s = through s refl
run (t ∷ ts) s = run_by s t ts (advance s t.token) refl (λ next. run ts next)
