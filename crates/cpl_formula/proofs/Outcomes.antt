-- What the reader makes of a text is the text's outcome, and a text has no other.
use Rattle.std.proofs.Common.{◌≡◌, ℕ, ◌<◌, ◌≤◌, Bool, true, false, if◌then◌else◌, leb, List, [], ◌∷◌, ◌++◌, length, Option, Some, None, Result, Ok, Err, refl, sym, ap, subst, ◌∙◌, append-nil, leb-true, leb-false}
use Rattle.cpl_formula.specs.Formulas.{kinds, IsViable, IsFirstFault, Outcome, OutcomeOf, formula_of}
use Rattle.cpl_formula.specs.Formulas.Outcome.{tangles, is_faulty, ends_early, is_deep, is_formula}
use Rattle.cpl_formula.specs.Grammar.{Expr, yield_of_expr, input_of, tree_of_expr, reads_of_expr, depth_of_expr}
use Rattle.cpl_formula.specs.Grammar.Atom.{field}
use Rattle.cpl_formula.specs.Reads.{distinct_reads, with_read}
use Rattle.cpl_formula.specs.Steps.{start_state, walk, outcome_of_walk, outcome_at_end, last_operand, outcome_of_part, expr_at, leaf, fault_at, parsed_of}
use Rattle.cpl_formula.specs.Tokens.{Placed, is_tangled, tokens_of}
use Rattle.cpl_formula.specs.declared.fault.FormulaFault.{FormulaFault}
use Rattle.cpl_formula.specs.declared.fault.FormulaFault.TheVariants as faults
use Rattle.cpl_formula.specs.declared.formula.Parsed.{Parsed}
use Rattle.cpl_formula.specs.declared.formula.Read.{Read}
use Rattle.cpl_formula.specs.declared.state.Frame.{Frame}
use Rattle.cpl_formula.specs.declared.state.Level.{Level}
use Rattle.cpl_formula.specs.declared.state.Part.{Part}
use Rattle.cpl_formula.specs.declared.tokens.Token.{Token}
use Rattle.cpl_formula.proofs.Facts.{Reached, reached, yield_of_whole, begins_go, go_begins, go_snoc}
use Rattle.cpl_formula.proofs.Judging.{judged, judged_one}
use Rattle.cpl_formula.proofs.CutParts.{kept, deep, part_of_expr}
use Rattle.cpl_formula.proofs.FinalReads.{extends_self, distinct_snoc}
use Rattle.cpl_formula.proofs.Shown.{shown, shown_frames, shown_frame, shown_level, shown_mode, expr_same}
use Rattle.cpl_formula.proofs.Standing.{Waits, Opened, Place, Standing, here, beginning, go, advance, settled, settled_by, whole}
use Rattle.cpl_formula.proofs.Standing.Place.{named, behind}
use Rattle.cpl_formula.proofs.Stepping.{kind_of, last_input}
use Rattle.cpl_formula.proofs.Walking.{last_place, walk_over, walk_stops, settled_grows, Run, run}
use Rattle.cpl_formula.proofs.Walking.Run.{through, stopped}

-- ---- the end of a text

-- what the end of a text makes of the derivation that ends there, if one does
abbrev ending_of : ℕ → List Read → Option Expr → Result Parsed FormulaFault
ending_of end all None = Err (faults.Syntax end)
ending_of end all (Some e) = outcome_of_part all (part_of_expr all e)

not_closed : (end : ℕ) (frames : List Frame) (f : Frame) (level : Level) (last : List Read × Part)
    → outcome_at_end end (frames ++ f ∷ []) level (Some last) ≡ Err (faults.Syntax end)
not_closed end [] f level last = refl
not_closed end (g ∷ frames) f level last = refl

abbrev all_of : List (Waits × Opened) → Waits → List Read → Place → List Read
all_of brackets w done p = distinct_reads (settled_by brackets w done p).done

finishes_by : (end : ℕ) (brackets : List (Waits × Opened)) (w : Waits) (done : List Read) (p : Place)
    → outcome_at_end end (shown_frames (all_of brackets w done p) brackets) (shown_level (all_of brackets w done p) w) (last_operand (distinct_reads done) (shown_mode (all_of brackets w done p) p)) ≡ ending_of end (all_of brackets w done p) (whole (settled_by brackets w done p))
finishes_by end [] w done (behind a) = ap (outcome_of_part (distinct_reads done)) (expr_same (distinct_reads done) w a)
finishes_by end [] w done (named k) =
    let all = distinct_reads (done ++ here k ∷ []) in
    let first : outcome_of_part (with_read (distinct_reads done) (here k)) (expr_at (shown_level all w) (leaf (input_of (distinct_reads done) (here k)))) ≡ outcome_of_part all (expr_at (shown_level all w) (leaf (input_of all (here k)))) =
    λ i. outcome_of_part (sym (distinct_snoc done (here k)) i) (expr_at (shown_level all w) (last_input all done (here k) (extends_self all) i)) in
    first ∙ ap (outcome_of_part all) (expr_same all w (field k))
finishes_by end [] w done p = refl
finishes_by end (b ∷ brackets) w done (behind a) = not_closed end (shown_frames (distinct_reads done) brackets) (shown_frame (distinct_reads done) b) (shown_level (distinct_reads done) w) _
finishes_by end (b ∷ brackets) w done (named k) =
    let all = distinct_reads (done ++ here k ∷ []) in
    not_closed end (shown_frames all brackets) (shown_frame all b) (shown_level all w) _
finishes_by end (b ∷ brackets) w done p = refl

-- ---- a whole text

-- what reading makes of tokens, where a text of this length is tangled or not
abbrev made_of : Bool → List Placed → ℕ → Result Parsed FormulaFault
made_of tangled tokens end = if tangled then Err faults.DeepFormula else outcome_of_walk end (walk 0 ([], start_state) tokens)

-- over all tokens
made_through : (tokens : List Placed) (end : ℕ) (final : Standing) → go beginning (kinds tokens) ≡ Some final
    → made_of false tokens end ≡ ending_of end (distinct_reads (settled final).done) (whole (settled final))
made_through tokens end final goes =
    let all = distinct_reads (settled final).done in
    let whole_walk : walk 0 ([], start_state) (tokens ++ []) ≡ Ok (distinct_reads final.done, shown all final) = walk_over all tokens [] beginning final 0 goes (settled_grows final) in
    ap (λ (ts : List Placed). outcome_of_walk end (walk 0 ([], start_state) ts)) (sym (append-nil tokens)) ∙ ap (outcome_of_walk end) whole_walk ∙ finishes_by end final.brackets final.waits final.done final.place

-- up to the token where reading stops
made_stopped : (tokens : List Placed) (end : ℕ) (front : List Placed) (t : Placed) (rest : List Placed) (s : Standing)
    → tokens ≡ front ++ (t ∷ rest) → go beginning (kinds front) ≡ Some s → advance s t.token ≡ None
    → made_of false tokens end ≡ Err (fault_at (kind_of s.place t.token) (last_place 0 front) t.at)
made_stopped tokens end front t rest s parted goes stops =
    ap (λ (ts : List Placed). outcome_of_walk end (walk 0 ([], start_state) ts)) parted ∙ ap (outcome_of_walk end) (walk_stops front t rest beginning s 0 goes stops)

-- over the tokens of a derivation
made_derived : (tokens : List Placed) (end : ℕ) (e : Expr) → kinds tokens ≡ yield_of_expr e
    → made_of false tokens end ≡ outcome_of_part (distinct_reads (reads_of_expr e)) (part_of_expr (distinct_reads (reads_of_expr e)) e)
made_derived tokens end e spelled =
    let there : Reached e = reached e in
    made_through tokens end there.stands (ap (go beginning) spelled ∙ there.goes) ∙ ap (ending_of end (distinct_reads (settled there.stands).done)) there.is_whole ∙ ap (λ (done : List Read). outcome_of_part (distinct_reads done) (part_of_expr (distinct_reads done) e)) there.reads

made_deep : (tokens : List Placed) (end : ℕ) (e : Expr) → kinds tokens ≡ yield_of_expr e → 32 < depth_of_expr e → made_of false tokens end ≡ Err faults.DeepFormula
made_deep tokens end e spelled large =
    let reads = distinct_reads (reads_of_expr e) in
    made_derived tokens end e spelled ∙ ap (outcome_of_part reads) (deep (tree_of_expr reads e) (depth_of_expr e) large)

made_formula : (tokens : List Placed) (end : ℕ) (e : Expr) → kinds tokens ≡ yield_of_expr e → depth_of_expr e ≤ 32 → made_of false tokens end ≡ Ok (formula_of e)
made_formula tokens end e spelled small =
    let reads = distinct_reads (reads_of_expr e) in
    made_derived tokens end e spelled ∙ ap (outcome_of_part reads) (kept (tree_of_expr reads e) (depth_of_expr e) small)

-- tokens that aren't those of a derivation
not_whole : (tokens : List Placed) (final : Standing) → go beginning (kinds tokens) ≡ Some final → whole (settled final) ≡ None → (e : Expr)
    → kinds tokens ≡ yield_of_expr e → ⊥
not_whole tokens final goes none e spelled =
    let there : Reached e = reached e in
    let same_go : go beginning (kinds tokens) ≡ Some there.stands = ap (go beginning) spelled ∙ there.goes in
    let both : Some final ≡ Some there.stands = sym goes ∙ same_go in
    let same : final ≡ there.stands = cc in
    let some : whole (settled final) ≡ Some e = ap (λ (s : Standing). whole (settled s)) same ∙ there.is_whole in
    let clash : ◌≡◌ {A = Option Expr} None (Some e) = sym none ∙ some in
    cc

-- no formula goes on with the token where reading stops
no_more : (ts : List Token) (t : Token) (s : Standing) → go beginning ts ≡ Some s → advance s t ≡ None → IsViable (ts ++ t ∷ []) → ⊥
no_more ts t s goes stops begins =
    let more = begins_go (ts ++ t ∷ []) begins in
    let none : go beginning (ts ++ t ∷ []) ≡ None = go_snoc beginning ts t s goes ∙ stops in
    let some : go beginning (ts ++ t ∷ []) ≡ Some more.0 = more.1 in
    cc

-- and it stops at a token with which no formula goes on
stops_by : (ts : List Token) (t : Token) (s : Standing) (o : Option Standing) → go beginning ts ≡ Some s → (IsViable (ts ++ t ∷ []) → ⊥)
    → advance s t ≡ o → advance s t ≡ None
stops_by ts t s None goes stops is = is
stops_by ts t s (Some next) goes stops is = absurd (stops (go_begins (ts ++ t ∷ []) next (go_snoc beginning ts t s goes ∙ is)))

-- ---- the outcome

outcome_spelled : (tokens : List Placed) (end : ℕ) (e : Expr) (b : Bool) → kinds tokens ≡ yield_of_expr e → leb (depth_of_expr e) 32 ≡ b
    → Outcome false tokens end (made_of false tokens end)
outcome_spelled tokens end e true spelled small =
    let fits = leb-true (depth_of_expr e) 32 small in
    subst (λ (r : Result Parsed FormulaFault). Outcome false tokens end r) (sym (made_formula tokens end e spelled fits)) (is_formula e refl spelled fits)
outcome_spelled tokens end e false spelled large =
    let over = leb-false (depth_of_expr e) 32 large in
    subst (λ (r : Result Parsed FormulaFault). Outcome false tokens end r) (sym (made_deep tokens end e spelled over)) (is_deep e refl spelled over)

outcome_through : (tokens : List Placed) (end : ℕ) (final : Standing) (e : Option Expr) → go beginning (kinds tokens) ≡ Some final
    → whole (settled final) ≡ e → Outcome false tokens end (made_of false tokens end)
outcome_through tokens end final None goes is =
    let early : made_of false tokens end ≡ Err (faults.Syntax end) = made_through tokens end final goes ∙ ap (ending_of end (distinct_reads (settled final).done)) is in
    subst (λ (r : Result Parsed FormulaFault). Outcome false tokens end r) (sym early) (ends_early refl (go_begins (kinds tokens) final goes) (not_whole tokens final goes is))
outcome_through tokens end final (Some e) goes is =
    outcome_spelled tokens end e (leb (depth_of_expr e) 32) (yield_of_whole (kinds tokens) final e goes is) refl

outcome_by : (tokens : List Placed) (end : ℕ) → Run beginning tokens → Outcome false tokens end (made_of false tokens end)
outcome_by tokens end (through final goes) = outcome_through tokens end final (whole (settled final)) goes refl
outcome_by tokens end (stopped front t rest s parted goes stops) =
    let fault = fault_at (kind_of s.place t.token) (last_place 0 front) t.at in
    let first : IsFirstFault tokens fault = record {
      before = front;
      at = t.at;
      token = t.token;
      after = rest;
      tokens_are = parted;
      viable = go_begins (kinds front) s goes;
      not_viable = no_more (kinds front) t.token s goes stops;
      fault_is = judged front t.at t.token s goes stops;
    } in
    subst (λ (r : Result Parsed FormulaFault). Outcome false tokens end r) (sym (made_stopped tokens end front t rest s parted goes stops)) (is_faulty fault refl first)

outcome_of : (tangled : Bool) (tokens : List Placed) (end : ℕ) → Outcome tangled tokens end (made_of tangled tokens end)
outcome_of true tokens end = tangles refl
outcome_of false tokens end = outcome_by tokens end (run tokens beginning)

-- what reading makes of a text is its outcome
pub outcome : (fields alarms : List (List ℕ)) (text : List ℕ) → OutcomeOf fields alarms text (parsed_of fields alarms text)
unfolding parsed_of
outcome fields alarms text = outcome_of (is_tangled text) (tokens_of fields alarms text) (length text)

-- ---- no other

fault_made : (tokens : List Placed) (end : ℕ) (fault : FormulaFault) → IsFirstFault tokens fault → Err fault ≡ made_of false tokens end
fault_made tokens end fault first =
    let here = begins_go (kinds first.before) first.viable in
    let s : Standing = here.0 in
    let goes : go beginning (kinds first.before) ≡ Some s = here.1 in
    let stops = stops_by (kinds first.before) first.token s (advance s first.token) goes first.not_viable refl in
    let t : Placed = record { at = first.at; token = first.token } in
    let same = judged_one first.before first.at first.token fault (fault_at (kind_of s.place first.token) (last_place 0 first.before) first.at) first.fault_is (judged first.before first.at first.token s goes stops) in
    ap Err same ∙ sym (made_stopped tokens end first.before t first.after s first.tokens_are goes stops)

early_by : (tokens : List Placed) (end : ℕ) (final : Standing) (e : Option Expr) → go beginning (kinds tokens) ≡ Some final
    → whole (settled final) ≡ e → ((d : Expr) → kinds tokens ≡ yield_of_expr d → ⊥) → Err (faults.Syntax end) ≡ made_of false tokens end
early_by tokens end final None goes is spells = sym (made_through tokens end final goes ∙ ap (ending_of end (distinct_reads (settled final).done)) is)
early_by tokens end final (Some e) goes is spells = absurd (spells e (yield_of_whole (kinds tokens) final e goes is))

only_by : (tangled : Bool) (tokens : List Placed) (end : ℕ) (r : Result Parsed FormulaFault) → Outcome tangled tokens end r → r ≡ made_of tangled tokens end
only_by tangled tokens end r (tangles is) = sym (ap (λ (b : Bool). made_of b tokens end) is)
only_by tangled tokens end r (is_faulty fault is first) = fault_made tokens end fault first ∙ sym (ap (λ (b : Bool). made_of b tokens end) is)
only_by tangled tokens end r (ends_early is begins spells) =
    let final = begins_go (kinds tokens) begins in
    early_by tokens end final.0 (whole (settled final.0)) final.1 refl spells ∙ sym (ap (λ (b : Bool). made_of b tokens end) is)
only_by tangled tokens end r (is_deep e is spelled large) = sym (ap (λ (b : Bool). made_of b tokens end) is ∙ made_deep tokens end e spelled large)
only_by tangled tokens end r (is_formula e is spelled small) = sym (ap (λ (b : Bool). made_of b tokens end) is ∙ made_formula tokens end e spelled small)

-- a text has one outcome
pub only_outcome : (fields alarms : List (List ℕ)) (text : List ℕ) (r : Result Parsed FormulaFault) → OutcomeOf fields alarms text r → r ≡ parsed_of fields alarms text
unfolding parsed_of
only_outcome fields alarms text r is = only_by (is_tangled text) (tokens_of fields alarms text) (length text) r is
