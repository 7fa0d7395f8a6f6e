-- Steps that load files, one behind another.
use Rattle.std.proofs.Common.{◌≡◌, ℕ, ◌+◌, Bool, true, false, ◌||◌, inl, inr, List, [], ◌∷◌, ◌++◌, length, Option, Some, None, IfSome, Result, Ok, Err, ap, ◌∙◌, sym, refl, subst, arith}
use Rattle.std.specs.Prelude.{◌⊎◌, IsErr, IsErrAnd, IsSomeAnd}
use Rattle.std.specs.List.{list_any, range_with_len}
use Rattle.std.specs.Str.{bytes_eq}
use Rattle.std.proofs.lemmas.List.{length-map}
use Rattle.std.proofs.lemmas.List.Folds.{list_any-append}
use Rattle.std.proofs.lemmas.List.FromFn.{length-range_with_len}
use Rattle.std.proofs.lemmas.List.Sums.{sum_by-append}
use Rattle.cpl_base.specs.Gives.{Gives}
use Rattle.cpl_base.specs.Outside.{Files, Rises, Stays}
use Rattle.cpl_base.specs.ResultChain.{◌>>=◌}
use Rattle.cpl_build.specs.Causes.{Follows, IsAmong, IsCause, Request, visit}
use Rattle.cpl_build.specs.Faults.{build_fault}
use Rattle.cpl_build.specs.WeightFiles.{asked_behind, file_asked, files_asked_with, record_count, record_total, weights_for, weights_with}
use Rattle.cpl_build.specs.declared.fault.BuildFault.{BuildFault}
use Rattle.cpl_build.specs.declared.fault.BuildFault.TheVariants.{Refused, ReadFault, Memory}
use Rattle.cpl_build.specs.declared.fault.Rejection.{Rejection}
use Rattle.cpl_build.specs.declared.fault.Rejection.TheVariants as rejection
use Rattle.cpl_build.proofs.SpanFacts.{first_ok}
use Rattle.cpl_comp.specs.declared.component.Comp.{Comp}
use Rattle.cpl_sequence.specs.declared.link_line.LinkLine.{LinkLine}
use Rattle.cpl_smm.specs.Files.{factors_of, weights_of}
use Rattle.cpl_smm.specs.Records.{Factor}
use Rattle.cpl_smm.specs.Rows.{Table, row_of, table_of}

-- what holds of the files that are told, by two facts of them
pub told-both : {P Q R : Files → Type 0} (told : Option Files) → ((files : Files) → P files → Q files → R files) → IfSome told P → IfSome told Q → IfSome told R
told-both None f p q = tt
told-both (Some files) f p q = f files p q

-- by one
pub told-one : {P R : Files → Type 0} (told : Option Files) → ((files : Files) → P files → R files) → IfSome told P → IfSome told R
told-one None f p = tt
told-one (Some files) f p = f files p

-- of files that are told for sure
told-some : {P Q R : Files → Type 0} (told : Option Files) → ((files : Files) → P files → Q files → R files) → IfSome told P → IsSomeAnd told Q → IsSomeAnd told R
told-some None f p q = absurd q
told-some (Some files) f p q = f files p q

-- why a step fails is why the whole does, if its faults are those of the whole and its files are asked for
pub cause-on : {A B : Type 0} (told : Option Files) (before after : ℕ) (first : Request A) (whole : Request B) (fault : BuildFault)
    → IfSome told (λ files. (f : BuildFault) → first.given files ≡ Err f → whole.given files ≡ Err f)
    → IfSome told (λ files. (name : List ℕ) → IsAmong name (first.asked files) → IsAmong name (whole.asked files))
    → IsCause (visit told before after) first fault → IsCause (visit told before after) whole fault
cause-on told before after first whole (Refused refusal) given asked c =
    (c.0, told-both told (λ files f is. f (Refused refusal) is) given c.1)
cause-on told before after first whole (ReadFault name) given asked c = record {
  counts = c.counts;
  cause = elim c.cause [ inl rises ↦ inl rises | inr missing ↦ inr (told-some told (λ files f is. f (ReadFault name) is) given missing) ];
  asked = told-both told (λ files a is. a name is) asked c.asked;
}
cause-on told before after first whole Memory given asked c = c

-- ---- what is answered

-- what holds of all files holds of those that are told
pub told-any : {P : Files → Type 0} (told : Option Files) → ((files : Files) → P files) → IfSome told P
told-any None each = tt
told-any (Some files) each = each files

-- a step that loads nothing: its refusal is the whole's, whatever the files hold
cause-rejected : {A : Type 0} (told : Option Files) (before after : ℕ) (whole : Request A) (e : Rejection) → after ≡ before → (e ≡ rejection.Memory) ⊎ IfSome told (λ files. whole.given files ≡ Err (build_fault e)) → IsCause (visit told before after) whole (build_fault e)
cause-rejected told before after whole (rejection.Refused refusal) quiet (inl memory) = absurd (cc)
cause-rejected told before after whole (rejection.Refused refusal) quiet (inr is) = (quiet, is)
cause-rejected told before after whole rejection.Memory quiet why = omega (arith, quiet)

-- the whole ends where a step that loads nothing does
pub follows-rejected : {X A : Type 0} (told : Option Files) (before after : ℕ) (whole : Request A) (view : X → A) (result : Result X BuildFault) (e : Rejection) → IsErr result → IsErrAnd result (λ f. f ≡ build_fault e) → after ≡ before → (e ≡ rejection.Memory) ⊎ IfSome told (λ files. whole.given files ≡ Err (build_fault e)) → Follows (visit told before after) whole view result
follows-rejected told before after whole view (Ok x) e err is quiet why = absurd (is)
follows-rejected told before after whole view (Err f) e err is quiet why =
    record { value = tt; fault = subst (IsCause (visit told before after) whole) (sym is) (cause-rejected told before after whole e quiet why) }

-- the whole ends where a step that loads files does
pub follows-failed : {X A B : Type 0} (told : Option Files) (before after : ℕ) (first : Request B) (whole : Request A) (view : X → A) (result : Result X BuildFault) (e : BuildFault) → IsErr result → IsErrAnd result (λ f. f ≡ e)
    → IfSome told (λ files. (f : BuildFault) → first.given files ≡ Err f → whole.given files ≡ Err f)
    → IfSome told (λ files. (name : List ℕ) → IsAmong name (first.asked files) → IsAmong name (whole.asked files))
    → IsCause (visit told before after) first e → Follows (visit told before after) whole view result
follows-failed told before after first whole view (Ok x) e err is given asked cause = absurd (is)
follows-failed told before after first whole view (Err f) e err is given asked cause =
    record { value = tt; fault = subst (IsCause (visit told before after) whole) (sym is) (cause-on told before after first whole e given asked cause) }

-- what follows behind a step is what the whole gives, if no load failed before
pub follows-behind : {X A : Type 0} (told later : Option Files) (before middle after : ℕ) (second whole : Request A) (view : X → A) (result : Result X BuildFault) → later ≡ told → middle ≡ before
    → IfSome told (λ files. second.given files ≡ whole.given files)
    → IfSome told (λ files. (name : List ℕ) → IsAmong name (second.asked files) → IsAmong name (whole.asked files))
    → Follows (visit later middle after) second view result → Follows (visit told before after) whole view result
follows-behind told later before middle after second whole view (Ok x) same quiet given asked follows =
    let P = λ (t : Option Files). IfSome t (λ files. second.given files ≡ Ok (view x)) in
    record { value = (follows.value.0 ∙ quiet, told-both told (λ files g is. sym g ∙ is) given (subst P same follows.value.1)); fault = tt }
follows-behind told later before middle after second whole view (Err f) same quiet given asked follows =
    let cause : IsCause (visit told before after) second f = subst (λ (t : Option Files). IsCause (visit t before after) second f) same (subst (λ n. IsCause (visit later n after) second f) quiet follows.fault) in
    record { value = tt; fault = cause-on told before after second whole f (told-one told (λ files g e is. sym g ∙ is) given) asked cause }

-- a count that stayed didn't rise
stays-still : (before after : ℕ) → Stays before after → Rises before after → ⊥
stays-still before after stays (inl more) = omega (arith, stays.same)
stays-still before after stays (inr full) = omega (arith, stays.counts)

-- over a shelf that tells its files, and whose count stayed, the answer is the definition's
pub answer-from : {X A : Type 0} (told : Option Files) (before after : ℕ) (wanted : Request A) (view : X → A) (result : Result X BuildFault) → Follows (visit told before after) wanted view result → Stays before after → IfSome told (λ files. Gives Memory view result (wanted.given files))
answer-from None before after wanted view result follows stays = tt
answer-from (Some files) before after wanted view (Ok x) follows stays = record { value = follows.value.1; fault = tt }
answer-from (Some files) before after wanted view (Err (Refused refusal)) follows stays = record { value = tt; fault = inr follows.fault.1 }
answer-from (Some files) before after wanted view (Err (ReadFault name)) follows stays =
    record { value = tt; fault = elim follows.fault.cause [ inl rises ↦ absurd (stays-still before after stays rises) | inr missing ↦ inr missing ] }
answer-from (Some files) before after wanted view (Err Memory) follows stays = record { value = tt; fault = inl refl }

-- ---- the weights of connectors

-- or yes is yes
or-true : (b : Bool) → (b || true) ≡ true
or-true true = refl
or-true false = refl

-- a name among the last names is among all
pub among-behind : (name : List ℕ) (before behind : List (List ℕ)) → IsAmong name behind → IsAmong name (before ++ behind)
among-behind name before behind is =
    let p = λ (other : List ℕ). bytes_eq other name in
    list_any-append p before behind ∙ ap (λ b. list_any p before || b) is ∙ or-true (list_any p before)

-- so is one among the first
pub among-before : (name : List ℕ) (before behind : List (List ℕ)) → IsAmong name before → IsAmong name (before ++ behind)
among-before name before behind is =
    let p = λ (other : List ℕ). bytes_eq other name in
    list_any-append p before behind ∙ ap (λ b. b || list_any p behind) is

-- the weights of one connector more
pub weights-step : (files : Files) (comps : List Comp) (before : List (Option Table)) (spent : ℕ) (line : LinkLine) (lines : List LinkLine) (given : Option Table) → spent ≡ record_total before → weights_for files comps spent line ≡ Ok given → weights_with files comps before (line ∷ lines) ≡ weights_with files comps (before ++ given ∷ []) lines
weights-step files comps before spent line lines given total is =
    let next = λ (given : Option Table). weights_with files comps (before ++ given ∷ []) lines in
    ap (λ n. weights_for files comps n line >>= next) (sym total) ∙ ap (λ r. r >>= next) is

-- what is asked for behind one connector more
pub asked-step : (files : Files) (comps : List Comp) (before : List (Option Table)) (spent : ℕ) (line : LinkLine) (lines : List LinkLine) (given : Option Table) → spent ≡ record_total before → weights_for files comps spent line ≡ Ok given → files_asked_with files comps before (line ∷ lines) ≡ file_asked line ++ files_asked_with files comps (before ++ given ∷ []) lines
asked-step files comps before spent line lines given total is =
    let next = λ (given : Option Table). files_asked_with files comps (before ++ given ∷ []) lines in
    ap (λ n. file_asked line ++ asked_behind (weights_for files comps n line) next) (sym total) ∙ ap (λ r. file_asked line ++ asked_behind r next) is

-- the records of one connector more
pub total-more : (before : List (Option Table)) (given : Option Table) → record_total (before ++ given ∷ []) ≡ record_total before + record_count given
total-more before given = let more = sum_by-append record_count before (given ∷ []) in omega (arith, more)

-- the cells of weights that were read
pub table-cells : (src dst : ℕ) (bytes : List ℕ) (table : Table) → weights_of src dst bytes ≡ Ok table → (table.src_cells ≡ src) × (length table.rows ≡ dst)
table-cells src dst bytes table is =
    let read = first_ok (λ (factors : List Factor). Ok (table_of src dst factors)) (factors_of src dst bytes) table is in
    let same : table ≡ table_of src dst read.0 = cc (read.2) in
    (ap (λ (t : Table). t.src_cells) same, ap (λ (t : Table). length t.rows) same ∙ length-map (range_with_len 1 dst) (row_of src read.0) ∙ length-range_with_len 1 dst)
