-- Induction over elements, and what definitions give at each kind of element.
use Rattle.std.proofs.Common.{◌≡◌, ℕ, zero, suc, Bool, true, leb, ltb, List, [], ◌∷◌, ◌++◌, length, map, Option, refl, sym, ap, ◌∙◌, subst, ◌&&◌}
use Rattle.std.specs.Prelude.{⊤, false}
use Rattle.std.specs.List.{flat_map, list_all}
use Rattle.std.proofs.lemmas.List.{length-map}
use Rattle.cpl_sequence.specs.Sound.{is_loop, is_part, is_substep, is_timed, timed_step, is_nested, nested_step}
use Rattle.cpl_sequence.specs.Operations.{iterations, run_ops, element_ops, body_ops, element_ops_step}
use Rattle.cpl_sequence.specs.declared.element.Element.{Element, roll-Element}
use Rattle.cpl_sequence.specs.declared.element.Element.TheOpen.{Link, Run, Loop}
use Rattle.cpl_sequence.specs.declared.element.Element.TheFolds.{fold-Element, fold-roll-Element, ind-Element}
use Rattle.cpl_sequence.specs.declared.element.Element.TheVariants.{Link as LinkVariant, Run as RunVariant, Loop as LoopVariant, rolls-Link, rolls-Run, rolls-Loop}
use Rattle.cpl_sequence.specs.declared.op.Op.{Op}
use Rattle.cpl_sequence.specs.declared.op.Op.TheVariants.{Link as LinkOp}

-- a fact of each member of a list
abbrev pub Every : {A : Type 0} → (A → Type 0) → List A → Type 0
Every P [] = ⊤
Every P (x ∷ xs) = P x × Every P xs

-- a fact of all is one of each
pub every_all : {A : Type 0} (P : A → Type 0) → ((x : A) → P x) → (xs : List A) → Every P xs
every_all P all [] = tt
every_all P all (x ∷ xs) = (all x, every_all P all xs)

-- a fact that follows
pub every_map : {A : Type 0} (P Q : A → Type 0) → ((x : A) → P x → Q x) → (xs : List A) → Every P xs → Every Q xs
every_map P Q follows [] each = tt
every_map P Q follows (x ∷ xs) each = (follows x each.0, every_map P Q follows xs each.1)

-- members that each come with their fact
every-pairs : {A : Type 0} (P : A → Type 0) (es : List ((e : A) × P e)) → Every P (map (λ e. e.0) es)
every-pairs P [] = tt
every-pairs P (e ∷ es) = (e.1, every-pairs P es)

-- induction: a fact of each link, each run, and each loop of whose elements it holds
pub induction : (P : Element → Type 0) → ((link : ℕ) → P (roll-Element (Link link))) → ((component phase : ℕ) (substep : Option ℕ) → P (roll-Element (Run component phase substep))) → ((inner duration : ℕ) (body : List Element) → Every P body → P (roll-Element (Loop inner duration body))) → (e : Element) → P e
induction P link run loop = ind-Element P (λ x y is. subst (λ z. P (roll-Element z)) is (elim y as (λ y. P (roll-Element (Rattle.cpl_sequence.specs.declared.element.Element.TheFolds.map-Element _ _ (λ e. e.0) y))) [
  | Link k ↦ link k
  | Run component phase substep ↦ run component phase substep
  | Loop inner duration body ↦ loop inner duration (map (λ e. e.0) body) (every-pairs P body)
]))

-- lists joined over a map
pub flat_map-map : {A B C : Type 0} (f : B → List C) (g : A → B) (xs : List A) → flat_map f (map g xs) ≡ flat_map (λ x. f (g x)) xs
flat_map-map f g [] = refl
flat_map-map f g (x ∷ xs) = ap (λ ys. f (g x) ++ ys) (flat_map-map f g xs)

-- a test of all members over a map
pub list_all-map : {A B : Type 0} (p : B → Bool) (g : A → B) (xs : List A) → list_all p (map g xs) ≡ list_all (λ x. p (g x)) xs
list_all-map p g [] = refl
list_all-map p g (x ∷ xs) = ap (λ b. p (g x) && b) (list_all-map p g xs)

-- the operations of a link
pub element_ops-Link : (link time step : ℕ) → element_ops (roll-Element (Link link)) time step ≡ LinkOp link false ∷ []
element_ops-Link link time step = ap (λ f. f time step) (fold-roll-Element (ℕ → ℕ → List Op) element_ops_step (Link link))

-- those of a run
pub element_ops-Run : (component phase : ℕ) (substep : Option ℕ) (time step : ℕ) → element_ops (roll-Element (Run component phase substep)) time step ≡ run_ops component phase time step substep
element_ops-Run component phase substep time step = ap (λ f. f time step) (fold-roll-Element (ℕ → ℕ → List Op) element_ops_step (Run component phase substep))

-- those of a loop
pub element_ops-Loop : (inner duration : ℕ) (body : List Element) (time step : ℕ) → element_ops (roll-Element (Loop inner duration body)) time step ≡ iterations (λ start. body_ops body start inner) inner duration time
element_ops-Loop inner duration body time step =
    ap (λ f. f time step) (fold-roll-Element (ℕ → ℕ → List Op) element_ops_step (Loop inner duration body))
    ∙ (λ j. iterations (λ start. flat_map-map (λ ops. ops start inner) element_ops body j) inner duration time)

-- whether a run's times fit
pub is_timed-Run : (component phase : ℕ) (substep : Option ℕ) (step : ℕ) → is_timed (roll-Element (Run component phase substep)) step ≡ is_substep substep step
is_timed-Run component phase substep step = ap (λ f. f step) (fold-roll-Element (ℕ → Bool) timed_step (Run component phase substep))

-- whether a loop's do
pub is_timed-Loop : (inner duration : ℕ) (body : List Element) (step : ℕ) → is_timed (roll-Element (Loop inner duration body)) step ≡ (leb duration step && ltb 0 (length body) && is_loop (λ e. is_timed e inner) inner duration body)
is_timed-Loop inner duration body step =
    ap (λ f. f step) (fold-roll-Element (ℕ → Bool) timed_step (Loop inner duration body))
    ∙ ap (λ n. leb duration step && ltb 0 n && is_loop (λ timed. timed inner) inner duration (map is_timed body)) (length-map body is_timed)
    ∙ ap (λ b. leb duration step && ltb 0 (length body) && (is_part inner duration && ltb 0 duration && b)) (list_all-map (λ timed. timed inner) is_timed body)

-- what code matches as a link
pub at_Link : (e : Element) (link : ℕ) → e ≡ LinkVariant link → e ≡ roll-Element (Link link)
at_Link e link is = is ∙ sym (rolls-Link link)

-- what code matches as a run
pub at_Run : (e : Element) (component phase : ℕ) (substep : Option ℕ) → e ≡ RunVariant component phase substep → e ≡ roll-Element (Run component phase substep)
at_Run e component phase substep is = is ∙ sym (rolls-Run component phase substep)

-- what code matches as a loop
pub at_Loop : (e : Element) (inner duration : ℕ) (body : List Element) → e ≡ LoopVariant inner duration body → e ≡ roll-Element (Loop inner duration body)
at_Loop e inner duration body is = is ∙ sym (rolls-Loop inner duration body)

-- a link has no times
pub is_timed-Link : (link step : ℕ) → is_timed (roll-Element (Link link)) step ≡ true
is_timed-Link link step = ap (λ f. f step) (fold-roll-Element (ℕ → Bool) timed_step (Link link))

-- and no loops
pub is_nested-Link : (link depth : ℕ) → is_nested (roll-Element (Link link)) depth ≡ true
is_nested-Link link depth = ap (λ f. f depth) (fold-roll-Element (ℕ → Bool) nested_step (Link link))

-- a loop is one level more
pub is_nested-Loop : (inner duration : ℕ) (body : List Element) (depth : ℕ) → is_nested (roll-Element (Loop inner duration body)) (suc depth) ≡ list_all (λ e. is_nested e depth) body
is_nested-Loop inner duration body depth =
    ap (λ f. f (suc depth)) (fold-roll-Element (ℕ → Bool) nested_step (Loop inner duration body))
    ∙ list_all-map (λ nested. nested depth) is_nested body

-- and so is none at no level
pub is_nested-Loop_zero : (inner duration : ℕ) (body : List Element) → is_nested (roll-Element (Loop inner duration body)) zero ≡ false
is_nested-Loop_zero inner duration body = ap (λ f. f zero) (fold-roll-Element (ℕ → Bool) nested_step (Loop inner duration body))
