-- Pieces that are put behind one another.
use Rattle.std.proofs.Common.{◌≡◌, ℕ, List, [], ◌∷◌, ◌++◌, refl, ap, ◌∙◌, append_assoc}
use Rattle.cpl_gen.specs.Config.{Line, before_text, text_of}

-- a text behind what stands behind a line
pub before_text-append : (line : Line) (text rest : List ℕ) → before_text line text ++ rest ≡ before_text line (text ++ rest)
before_text-append [] text rest = refl
before_text-append (piece ∷ pieces) text rest =
    append_assoc piece (before_text pieces text) rest ∙ ap (λ (t : List ℕ). piece ++ t) (before_text-append pieces text rest)

-- texts, lines and words behind one another, from the left and from the right
pub joined : (dictionary mediator atmosphere hundredths flux ocean land seconds sequence : List ℕ) (first second third fourth : Line) → (((((((((((dictionary ++ text_of (first ∷ [])) ++ mediator) ++ text_of (second ∷ [])) ++ atmosphere) ++ hundredths) ++ flux) ++ text_of (third ∷ [])) ++ ocean) ++ text_of (fourth ∷ [])) ++ land) ++ seconds) ++ sequence ≡ dictionary ++ before_text first (10 ∷ (mediator ++ before_text second (10 ∷ (atmosphere ++ (hundredths ++ (flux ++ before_text third (10 ∷ (ocean ++ before_text fourth (10 ∷ (land ++ (seconds ++ sequence)))))))))))
joined dictionary mediator atmosphere hundredths flux ocean land seconds sequence first second third fourth = simp (append_assoc, before_text-append)
