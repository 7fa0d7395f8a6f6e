-- What a sound loop keeps.
use Rattle.std.proofs.Common.{◌≡◌, ℕ, ◌%◌, ◌<◌, ◌≤◌, Bool, true, leb, ltb, eqb, List, [], ◌∷◌, length, get_or, sym, ap, ◌∙◌, arith, ◌&&◌, zero, suc}
use Rattle.std.specs.List.{list_all}
use Rattle.std.proofs.lemmas.Bool.{and_parts, eqb-true, leb-true, ltb-true}
use Rattle.cpl_sequence.specs.Sound.{is_loop, is_part, is_timed}
use Rattle.cpl_sequence.specs.declared.element.Element.{Element, roll-Element}
use Rattle.cpl_sequence.specs.declared.element.Element.TheOpen.{Loop}
use Rattle.cpl_sequence.specs.declared.element.Element.TheVariants.{Loop as LoopVariant}
use Rattle.cpl_sequence.proofs.TreeFacts.{at_Loop, is_timed-Loop}

-- a number from 1 that divides another
pub record IsPart (part whole : ℕ) : Type 0 where
  pub some : 0 < part
  pub exact : whole % part ≡ 0

-- a loop whose numbers fit, of members that pass
pub record IsLoop {A : Type 0} (passes : A → Bool) (step duration : ℕ) (body : List A) : Type 0 where
  pub step_some : 0 < step
  pub exact : duration % step ≡ 0
  pub lasts : 0 < duration
  pub each : list_all passes body ≡ true

-- what the test of a part says
pub part_from : (part whole : ℕ) → is_part part whole ≡ true → IsPart part whole
part_from part whole passed =
    let parts = and_parts (ltb 0 part) (eqb (whole % part) 0) passed in
    record { some = ltb-true 0 part parts.0; exact = eqb-true (whole % part) 0 parts.1 }

-- what the test of a loop says
pub loop_from : {A : Type 0} (passes : A → Bool) (step duration : ℕ) (body : List A) → is_loop passes step duration body ≡ true → IsLoop passes step duration body
loop_from passes step duration body passed =
    let parts = and_parts (is_part step duration && ltb 0 duration) (list_all passes body) passed in
    let times = and_parts (is_part step duration) (ltb 0 duration) parts.0 in
    let part = part_from step duration times.0 in
    record {
      step_some = part.some;
      exact = part.exact;
      lasts = ltb-true 0 duration times.1;
      each = parts.1;
    }

-- a loop within a loop
pub record IsInner (inner duration : ℕ) (body : List Element) (step : ℕ) : Type 0 where
  pub within : duration ≤ step
  pub some : 0 < length body
  pub passed : is_loop (λ e. is_timed e inner) inner duration body ≡ true
  pub loop : IsLoop (λ e. is_timed e inner) inner duration body

-- what the test of an element says of a loop
pub inner_from : (inner duration : ℕ) (body : List Element) (step : ℕ) → is_timed (roll-Element (Loop inner duration body)) step ≡ true → IsInner inner duration body step
inner_from inner duration body step passed =
    let parts = and_parts (leb duration step && ltb 0 (length body)) (is_loop (λ e. is_timed e inner) inner duration body) (sym (is_timed-Loop inner duration body step) ∙ passed) in
    let front = and_parts (leb duration step) (ltb 0 (length body)) parts.0 in
    record { within = leb-true duration step front.0; some = ltb-true 0 (length body) front.1; passed = parts.1; loop = loop_from (λ e. is_timed e inner) inner duration body parts.1 }

-- what all members pass, each does
pub list_all-get_or : {A : Type 0} (p : A → Bool) (xs : List A) (i : ℕ) (d : A) → i < length xs → list_all p xs ≡ true → p (get_or xs i d) ≡ true
list_all-get_or p [] i d inside all = absurd (omega arith)
list_all-get_or p (x ∷ xs) zero d inside all = (and_parts (p x) (list_all p xs) all).0
list_all-get_or p (x ∷ xs) (suc i) d inside all = list_all-get_or p xs i d (omega arith) (and_parts (p x) (list_all p xs) all).1

-- what the test of an element says of what code matches as a loop
pub inner_at : (e : Element) (inner duration : ℕ) (body : List Element) (step : ℕ) → e ≡ LoopVariant inner duration body → is_timed e step ≡ true → IsInner inner duration body step
inner_at e inner duration body step is timed =
    inner_from inner duration body step (sym (ap (λ x. is_timed x step) (at_Loop e inner duration body is)) ∙ timed)
