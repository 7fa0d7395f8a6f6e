-- What a derivation spells is what reading goes over, and no derivation is spelled like another.
use Rattle.std.proofs.Common.{◌≡◌, ℤ, pos, List, [], ◌∷◌, ◌++◌, Option, Some, None, refl, ap, sym, ◌∙◌}
use Rattle.std.proofs.lemmas.List.{append-nil}
use Rattle.cpl_formula.specs.Formulas.{IsViable, TakesAtoms}
use Rattle.cpl_formula.specs.Grammar.Atom.{number}
use Rattle.cpl_formula.specs.Grammar.{Expr, yield_of_expr, yield_of_atom, reads_of_expr, reads_of_atom}
use Rattle.cpl_formula.specs.declared.formula.Read.{Read}
use Rattle.cpl_formula.specs.declared.tokens.Token.{Token}
use Rattle.cpl_formula.specs.declared.tokens.Token.TheVariants as token
use Rattle.cpl_formula.proofs.Complete.{expr_waits, expr_last, expr_again, settle, run, run_expr, run_atom}
use Rattle.cpl_formula.proofs.Onward.{go_over, go_one, go_first, ends}
use Rattle.cpl_formula.proofs.Spelled.{go_spells, whole_spells}
use Rattle.cpl_formula.proofs.Standing.Place.{wanted, behind}
use Rattle.cpl_formula.proofs.Standing.{Standing, Waits, Opened, Place, standing, beginning, advance, advance_by, go, settled, whole}

-- where reading stands behind the tokens of a derivation
pub record Reached (e : Expr) : Type 0 where
  pub stands : Standing
  pub goes : go beginning (yield_of_expr e) ≡ Some stands
  pub is_whole : whole (settled stands) ≡ Some e
  pub reads : (settled stands).done ≡ reads_of_expr e

-- where reading stands, from where it is once a field without brackets counts as read
unsettled : (next : Option Standing) (s : Standing) → settle next ≡ Some s → (n : Standing) × (next ≡ Some n) × (settled n ≡ s)
unsettled None s is = absurd (cc)
unsettled (Some n) s is = (n, refl, cc)

pub reached : (e : Expr) → Reached e
reached e =
    let behind_all : Standing = standing [] (expr_waits e) (behind (expr_last e)) (reads_of_expr e) in
    let runs : run beginning (yield_of_expr e) ≡ Some behind_all = rw append-nil at (run_expr e [] [] [] tt) in
    let stands = unsettled (go beginning (yield_of_expr e)) behind_all runs in
    record { stands = stands.0; goes = stands.1; is_whole = ap whole stands.2 ∙ ap Some (expr_again e); reads = ap (λ (s : Standing). s.done) stands.2 }

-- what is read whole was spelled
pub yield_of_whole : (ts : List Token) (s : Standing) (e : Expr) → go beginning ts ≡ Some s → whole (settled s) ≡ Some e → ts ≡ yield_of_expr e
yield_of_whole ts s e goes is_whole = sym (go_spells ts beginning s goes) ∙ whole_spells s e is_whole

-- tokens begin a formula exactly where reading goes over them
pub begins_go : (ts : List Token) → IsViable ts → (s : Standing) × (go beginning ts ≡ Some s)
begins_go ts begins =
    let all = reached begins.1 in
    go_first ts begins.0 beginning all.stands (ap (go beginning) begins.2 ∙ all.goes)

pub go_begins : (ts : List Token) (s : Standing) → go beginning ts ≡ Some s → IsViable ts
go_begins ts s goes =
    let rest = ends s in
    (rest.more, rest.expr, yield_of_whole (ts ++ rest.more) rest.end rest.expr (go_over ts rest.more beginning s goes ∙ rest.goes) rest.is_whole)

-- going over tokens, and then over one more
pub go_snoc : (s : Standing) (ts : List Token) (t : Token) (next : Standing) → go s ts ≡ Some next → go s (ts ++ t ∷ []) ≡ advance next t
go_snoc s ts t next goes = go_over ts (t ∷ []) s next goes ∙ go_one next t

-- any atom may stand exactly where reading wants an operand
pub wanted_takes : (ts : List Token) (s : Standing) → go beginning ts ≡ Some s → s.place ≡ wanted → TakesAtoms ts
wanted_takes ts s goes is_wanted a =
    let same : s ≡ standing s.brackets s.waits wanted s.done = ap (λ place. standing s.brackets s.waits place s.done) is_wanted in
    let runs : run s (yield_of_atom a ++ []) ≡ Some (standing s.brackets s.waits (behind a) (s.done ++ reads_of_atom a)) =
    ap (λ from. run from (yield_of_atom a ++ [])) same ∙ run_atom a s.brackets s.waits s.done [] tt in
    let behind_atom = unsettled (go s (yield_of_atom a)) (standing s.brackets s.waits (behind a) (s.done ++ reads_of_atom a)) (rw append-nil at runs) in
    go_begins (ts ++ yield_of_atom a) behind_atom.0 (go_over ts (yield_of_atom a) beginning s goes ∙ behind_atom.1)

only_wanted : (brackets : List (Waits × Opened)) (w : Waits) (done : List Read) (place : Place) (z : ℤ) (next : Standing) → advance_by brackets w done place (token.Number z) ≡ Some next → place ≡ wanted
only_wanted brackets w done wanted z next goes = refl
only_wanted brackets w done place z next goes = absurd (cc)

pub takes_wanted : (ts : List Token) (s : Standing) → go beginning ts ≡ Some s → TakesAtoms ts → s.place ≡ wanted
takes_wanted ts s goes takes =
    let over = begins_go (ts ++ token.Number (pos 0) ∷ []) (takes (number (pos 0))) in
    only_wanted s.brackets s.waits s.done s.place (pos 0) over.0 (sym (go_snoc beginning ts (token.Number (pos 0)) s goes) ∙ over.1)

-- no two derivations are spelled alike
pub unambiguous : (d e : Expr) → yield_of_expr d ≡ yield_of_expr e → d ≡ e
unambiguous d e same =
    let of_d = reached d in
    let of_e = reached e in
    let stands : of_d.stands ≡ of_e.stands = cc (sym of_d.goes ∙ (ap (go beginning) same ∙ of_e.goes)) in
    cc (sym of_d.is_whole ∙ (ap (λ s. whole (settled s)) stands ∙ of_e.is_whole))
