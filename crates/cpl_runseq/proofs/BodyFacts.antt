-- Bodies that fit in a loop, with one element more.
use Rattle.std.proofs.Common.{◌≡◌, ℕ, ◌%◌, ◌≤◌, ◌<◌, Bool, true, eqb, leb, ltb, ◌&&◌, List, [], ◌∷◌, ◌++◌, length, map, Option, Some, None, refl, ap, ◌∙◌, arith, suc}
use Rattle.std.proofs.lemmas.Bool.{and_from, and_parts, lt-ltb}
use Rattle.std.proofs.lemmas.List.Folds.{list_all-append, list_all-map}
use Rattle.std.specs.List.{list_all}
use Rattle.cpl_sequence.specs.declared.element.Element.{Element, roll-Element}
use Rattle.cpl_sequence.specs.declared.element.Element.TheFolds.{fold-roll-Element}
use Rattle.cpl_sequence.specs.declared.element.Element.TheOpen.{Link, Run, Loop}
use Rattle.cpl_runseq.specs.ReadingBounds.{IsBody}
use Rattle.cpl_sequence.specs.Sound.{is_linked, is_loop, is_nested, is_part, is_substep, is_timed, linked_step, nested_step, timed_step}
use Rattle.cpl_runseq.specs.Reading.{divides, fits_step}
use Rattle.cpl_runseq.specs.FilledReading.{join_if_any}

-- An element fits in a loop of that step.
pub record IsFit (count depth step : ℕ) (e : Element) : Type 0 where
  pub timed : is_timed e step ≡ true
  pub nested : is_nested e depth ≡ true
  pub linked : (more : ℕ) → count ≤ more → is_linked more e ≡ true

-- a test that one more member passes
list_all-push : {X : Type 0} (p : X → Bool) (xs : List X) (x : X) → list_all p xs ≡ true → p x ≡ true → list_all p (xs ++ x ∷ []) ≡ true
list_all-push p xs x all here =
    list_all-append p xs (x ∷ []) ∙ and_from (list_all p xs) (list_all p (x ∷ [])) all (and_from (p x) true here refl)

-- a body with one element more
pub body-push : (count depth step : ℕ) (body : List Element) (e : Element) → IsBody count depth step body → IsFit count depth step e → IsBody count depth step (body ++ e ∷ [])
body-push count depth step body e fits fit = record {
  timed = list_all-push (λ x. is_timed x step) body e fits.timed fit.timed;
  nested = list_all-push (λ x. is_nested x depth) body e fits.nested fit.nested;
  linked = λ more most. list_all-push (is_linked more) body e (fits.linked more most) (fit.linked more most);
}

-- a body when there are more connectors
pub body-more : (count more depth step : ℕ) (body : List Element) → count ≤ more → IsBody count depth step body → IsBody more depth step body
body-more count more depth step body most fits = record {
  timed = fits.timed;
  nested = fits.nested;
  linked = λ n l. fits.linked n (omega arith);
}

-- no element
pub body-empty : (count depth step : ℕ) → IsBody count depth step []
body-empty count depth step = record { timed = refl; nested = refl; linked = λ more most. refl }

-- a connector that is there
pub link-fit : (count depth step k : ℕ) → k < count → IsFit count depth step (roll-Element (Link k))
link-fit count depth step k inside = record {
  timed = ap (λ (f : ℕ → Bool). f step) (fold-roll-Element (ℕ → Bool) timed_step (Link k));
  nested = ap (λ (f : ℕ → Bool). f depth) (fold-roll-Element (ℕ → Bool) nested_step (Link k));
  linked = λ more most. fold-roll-Element Bool (linked_step more) (Link k) ∙ lt-ltb k more (omega arith);
}

-- what a step that divides a time is
pub divides-parts : (step time : ℕ) → divides step time ≡ true → (is_part step time ≡ true) × (ltb 0 time ≡ true)
divides-parts step time is =
    let outer = and_parts (ltb 0 step && ltb 0 time) (eqb (time % step) 0) is in
    let inner = and_parts (ltb 0 step) (ltb 0 time) outer.0 in
    (and_from (ltb 0 step) (eqb (time % step) 0) inner.0 outer.1, inner.1)

-- a substep that fits
substep-fit : (step : ℕ) (substep : Option ℕ) → fits_step substep step ≡ true → is_substep substep step ≡ true
substep-fit step None is = refl
substep-fit step (Some substep) is = (divides-parts substep step is).0

-- a run whose substep fits
pub run-fit : (count depth step component phase : ℕ) (substep : Option ℕ) → fits_step substep step ≡ true → IsFit count depth step (roll-Element (Run component phase substep))
run-fit count depth step component phase substep is = record {
  timed = ap (λ (f : ℕ → Bool). f step) (fold-roll-Element (ℕ → Bool) timed_step (Run component phase substep)) ∙ substep-fit step substep is;
  nested = ap (λ (f : ℕ → Bool). f depth) (fold-roll-Element (ℕ → Bool) nested_step (Run component phase substep));
  linked = λ more most. fold-roll-Element Bool (linked_step more) (Run component phase substep);
}

-- members that pass, under a loop whose step divides its duration
pub loop-is : {X : Type 0} (p : X → Bool) (step duration : ℕ) (xs : List X) → divides step duration ≡ true → list_all p xs ≡ true → is_loop p step duration xs ≡ true
loop-is p step duration xs even all =
    let parts = divides-parts step duration even in
    and_from (is_part step duration && ltb 0 duration) (list_all p xs) (and_from (is_part step duration) (ltb 0 duration) parts.0 parts.1) all

-- a nested loop that has an element
loop-fit : (count depth step inner duration : ℕ) (e : Element) (es : List Element) → leb duration step ≡ true → divides inner duration ≡ true → IsBody count depth inner (e ∷ es) → IsFit count (suc depth) step (roll-Element (Loop inner duration (e ∷ es)))
loop-fit count depth step inner duration e es short even fits =
    let timed_all = list_all-map (λ (f : ℕ → Bool). f inner) is_timed (e ∷ es) ∙ fits.timed in
    let some : (leb duration step && ltb 0 (length (map is_timed (e ∷ es)))) ≡ true = and_from (leb duration step) (ltb 0 (length (map is_timed (e ∷ es)))) short (lt-ltb 0 (length (map is_timed (e ∷ es))) (omega arith)) in
    record {
      timed = ap (λ (f : ℕ → Bool). f step) (fold-roll-Element (ℕ → Bool) timed_step (Loop inner duration (e ∷ es))) ∙ and_from (leb duration step && ltb 0 (length (map is_timed (e ∷ es)))) _ some (loop-is (λ (f : ℕ → Bool). f inner) inner duration (map is_timed (e ∷ es)) even timed_all);
      nested = ap (λ (f : ℕ → Bool). f (suc depth)) (fold-roll-Element (ℕ → Bool) nested_step (Loop inner duration (e ∷ es))) ∙ list_all-map (λ (f : ℕ → Bool). f depth) is_nested (e ∷ es) ∙ fits.nested;
      linked = λ more most. fold-roll-Element Bool (linked_step more) (Loop inner duration (e ∷ es)) ∙ list_all-map (λ (b : Bool). b) (is_linked more) (e ∷ es) ∙ fits.linked more most;
    }

-- a nested loop joins a body
pub body-join : (count depth step inner duration : ℕ) (around body : List Element) → leb duration step ≡ true → divides inner duration ≡ true → IsBody count depth inner body → IsBody count (suc depth) step around → IsBody count (suc depth) step (join_if_any around inner duration body)
body-join count depth step inner duration around [] short even fits outer = outer
body-join count depth step inner duration around (e ∷ es) short even fits outer =
    body-push count (suc depth) step around (roll-Element (Loop inner duration (e ∷ es))) outer (loop-fit count depth step inner duration e es short even fits)
