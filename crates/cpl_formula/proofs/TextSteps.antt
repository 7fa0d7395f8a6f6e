-- Brackets behind a name, by the first byte that is no blank; and a name of six bytes.
use Rattle.std.proofs.Common.{◌≡◌, ℕ, ◌<◌, ◌≤◌, ◌==◌, Bool, false, not, List, [], ◌∷◌, length, get_or, option_map, Option, Some, None, refl, arith, inl, inr}
use Rattle.std.proofs.lemmas.Bool.{cases_Bool}
use Rattle.std.specs.Borrow.{Bor}
use Rattle.std.specs.List.{find}
use Rattle.std.specs.Option.{option_eq}
use Rattle.cpl_base.specs.Words.{is_blank}
use Rattle.cpl_formula.specs.Tokens.{is_bracketed}

-- whether a byte that was found is `[`
abbrev pub is_bracket : Option ℕ → Bool
is_bracket None = false
is_bracket (Some c) = c == 91

-- brackets follow where the first byte that is no blank is `[`
pub is_bracketed-find : (text : List ℕ) → is_bracketed text ≡ is_bracket (find (λ c. not (is_blank c)) text)
is_bracketed-find [] = refl
is_bracketed-find (c ∷ more) =
    elim (cases_Bool (is_blank c)) [
      | inl blank ↦ rw blank (is_bracketed-find more)
      | inr other ↦ rw other refl
    ]

-- comparing a byte that was found with `[`
pub is_bracket-eq : (found : Option (Bor ℕ)) (bracket : Bor ℕ) → bracket.now ≡ 91 → option_eq (λ (x y : Bor ℕ). x.now == y.now) found (Some bracket) ≡ is_bracket (option_map (λ x. x.now) found)
is_bracket-eq None bracket is = refl
is_bracket-eq (Some x) bracket is = rw is refl

-- a text of six bytes, byte by byte
pub six_bytes : (text : List ℕ) (a b c d e f : ℕ) → 6 ≤ length text → length text < 7 → get_or text 0 0 ≡ a → get_or text 1 0 ≡ b → get_or text 2 0 ≡ c → get_or text 3 0 ≡ d → get_or text 4 0 ≡ e → get_or text 5 0 ≡ f → text ≡ a ∷ b ∷ c ∷ d ∷ e ∷ f ∷ []
six_bytes (a ∷ b ∷ c ∷ d ∷ e ∷ f ∷ []) k l m n o p least most ka kb kc kd ke kf = rw (ka, kb, kc, kd, ke, kf) refl
six_bytes (a ∷ b ∷ c ∷ d ∷ e ∷ f ∷ g ∷ more) k l m n o p least most ka kb kc kd ke kf = absurd (omega arith)
six_bytes [] k l m n o p least most ka kb kc kd ke kf = absurd (omega arith)
six_bytes (a ∷ []) k l m n o p least most ka kb kc kd ke kf = absurd (omega arith)
six_bytes (a ∷ b ∷ []) k l m n o p least most ka kb kc kd ke kf = absurd (omega arith)
six_bytes (a ∷ b ∷ c ∷ []) k l m n o p least most ka kb kc kd ke kf = absurd (omega arith)
six_bytes (a ∷ b ∷ c ∷ d ∷ []) k l m n o p least most ka kb kc kd ke kf = absurd (omega arith)
six_bytes (a ∷ b ∷ c ∷ d ∷ e ∷ []) k l m n o p least most ka kb kc kd ke kf = absurd (omega arith)
