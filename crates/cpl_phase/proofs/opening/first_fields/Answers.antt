use Rattle.std.proofs.Common.{◌∙◌, ◌++◌, [], ◌∷◌, List, ℤ, pos, replicate, ap, subst, sym}
use Rattle.cpl_phase.specs.Opened.{AreFirstFields}
use Rattle.cpl_phase.proofs.OpenFacts.{first-fields}
use Rattle.cpl_phase.proofs.opening.first_fields.Goals as goal

pub returns : goal.returns
returns c =
    let frame = c.args.frame.now in
    let count = c.args.count in
    let made = c.in_ok-numbers.numbers in
    let zeros = c.in_ok-fields.ensures ∙ ap (λ n. replicate count (replicate n (pos 0))) c.places.ensures.value in
    let one = c.in_ok-push.ensures.items ∙ ap (λ (xs : List (List ℤ)). xs ++ made.columns ∷ []) zeros in
    let two = c.in_ok-push-2.ensures.items ∙ ap (λ (xs : List (List ℤ)). xs ++ made.rows ∷ []) one in
    let three = c.in_ok-push-3.ensures.items ∙ ap (λ (xs : List (List ℤ)). xs ++ made.cells ∷ []) two in
    let P : List (List ℤ) → Type 0 = AreFirstFields frame count in
    subst P (sym (c.of.ensures ∙ three))
    (first-fields frame count made.columns made.rows made.cells
    c.in_ok-numbers.ensures.columns c.in_ok-numbers.ensures.rows c.in_ok-numbers.ensures.cells)
