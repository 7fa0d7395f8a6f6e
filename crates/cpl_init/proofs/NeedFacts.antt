-- Numbers among others, and what rows say of who needs whom.
use Rattle.std.proofs.Common.{◌≡◌, ◌≢◌, ℕ, suc, ◌<◌, true, false, not, ◌&&◌, ◌||◌, List, [], ◌∷◌, ◌++◌, length, refl, sym, ap, subst, ◌∙◌, inl, inr, arith}
use Rattle.std.proofs.Math.Bool.{or-false}
use Rattle.std.proofs.lemmas.Bool.{and_cases, and_from, and_parts, eq-eqb, eqb-true, false_from_ne_true, ne_eqb, not-false, or_cases, or_parts, or_right}
use Rattle.std.proofs.lemmas.List.Folds.{list_any-append}
use Rattle.std.specs.Prelude.{◌==◌}
use Rattle.cpl_init.specs.Orders.{AreNeeds, has_number, is_needed, is_ready}
use Rattle.cpl_init.specs.declared.needs.Needs.{Needs}

-- a number behind others
has_number-push : (numbers : List ℕ) (n k : ℕ) → has_number (numbers ++ n ∷ []) k ≡ (has_number numbers k || (n == k))
has_number-push numbers n k =
    list_any-append (λ m. m == k) numbers (n ∷ []) ∙ ap (λ b. has_number numbers k || b) (or-false (n == k))

-- is among them
pub has_number-pushed : (numbers : List ℕ) (n : ℕ) → has_number (numbers ++ n ∷ []) n ≡ true
has_number-pushed numbers n = has_number-push numbers n n ∙ or_right _ _ (eq-eqb n n refl)

-- and another one is where it was
pub has_number-pushed_other : (numbers : List ℕ) (n k : ℕ) → k ≢ n → has_number (numbers ++ n ∷ []) k ≡ has_number numbers k
has_number-pushed_other numbers n k other =
    has_number-push numbers n k ∙ ap (λ b. has_number numbers k || b) (ne_eqb n k (λ is. other (sym is))) ∙ or-false (has_number numbers k)

-- where a number is there is one
pub has_number-some : (numbers : List ℕ) (n : ℕ) → has_number numbers n ≡ true → 0 < length numbers
has_number-some [] n has = absurd (cc)
has_number-some (k ∷ numbers) n has = omega arith

-- a row behind others
is_needed-push : (needs : List Needs) (row : Needs) (c p : ℕ) → is_needed (needs ++ row ∷ []) c p ≡ (is_needed needs c p || (row.component == c && row.producer == p))
is_needed-push needs row c p =
    list_any-append (λ (r : Needs). r.component == c && r.producer == p) needs (row ∷ [])
    ∙ ap (λ b. is_needed needs c p || b) (or-false (row.component == c && row.producer == p))

-- says that its component needs its producer
pub is_needed-pushed : (needs : List Needs) (row : Needs) → is_needed (needs ++ row ∷ []) row.component row.producer ≡ true
is_needed-pushed needs row =
    is_needed-push needs row row.component row.producer
    ∙ or_right _ _ (and_from _ _ (eq-eqb row.component row.component refl) (eq-eqb row.producer row.producer refl))

-- and nothing of others
pub is_needed-pushed_other : (needs : List Needs) (row : Needs) (c p : ℕ) → (row.component ≡ c → row.producer ≡ p → ⊥) → is_needed (needs ++ row ∷ []) c p ≡ is_needed needs c p
is_needed-pushed_other needs row c p other =
    let fails : (row.component == c && row.producer == p) ≡ false = false_from_ne_true _ (λ is. let both = and_parts _ _ is in other (eqb-true _ _ both.0) (eqb-true _ _ both.1)) in
    is_needed-push needs row c p ∙ ap (λ b. is_needed needs c p || b) fails ∙ or-false (is_needed needs c p)

-- the rows behind a first one are of listed components where all are
AreNeeds-rest : (count : ℕ) (row : Needs) (needs : List Needs) → AreNeeds count (row ∷ needs) → AreNeeds count needs
AreNeeds-rest count row needs all k d inside = all (suc k) d (omega arith)

-- needed producers are listed
pub is_needed-listed : (count : ℕ) (needs : List Needs) (c p : ℕ) → AreNeeds count needs → is_needed needs c p ≡ true → p < count
is_needed-listed count [] c p all needed = absurd (cc)
is_needed-listed count (row ∷ needs) c p all needed = elim (or_cases (row.component == c && row.producer == p) (is_needed needs c p) needed) [
  | inl first ↦
      let is = eqb-true row.producer p (and_parts (row.component == c) (row.producer == p) first).1 in
      let listed = (all 0 row (omega arith)).producer in
      subst (λ n. n < count) is listed
  | inr later ↦ is_needed-listed count needs c p (AreNeeds-rest count row needs all) later
]

-- what a ready component needs is among those before
pub is_ready-has : (needs : List Needs) (before : List ℕ) (c p : ℕ) → is_ready needs before c ≡ true → is_needed needs c p ≡ true → has_number before p ≡ true
is_ready-has [] before c p ready needed = absurd (cc)
is_ready-has (row ∷ needs) before c p ready needed =
    let both = and_parts (not (row.component == c) || has_number before row.producer) (is_ready needs before c) ready in
    elim (or_cases (row.component == c && row.producer == p) (is_needed needs c p) needed) [
      | inl first ↦
          let parts = and_parts (row.component == c) (row.producer == p) first in
          let here : (not (row.component == c) || has_number before row.producer) ≡ true = both.0 in
          let has : has_number before row.producer ≡ true = rw parts.0 at here in
          subst (λ n. has_number before n ≡ true) (eqb-true row.producer p parts.1) has
      | inr later ↦ is_ready-has needs before c p both.1 later
    ]

-- a producer that a component needs and that isn't among those before
pub record IsMissing (needs : List Needs) (before : List ℕ) (c p : ℕ) : Type 0 where
  pub needed : is_needed needs c p ≡ true
  pub behind : has_number before p ≡ false

-- a component that isn't ready has one
pub is_ready-misses : (needs : List Needs) (before : List ℕ) (c : ℕ) → is_ready needs before c ≡ false → (p : ℕ) × IsMissing needs before c p
is_ready-misses [] before c unready = absurd (cc)
is_ready-misses (row ∷ needs) before c unready = elim (and_cases _ _ unready) [
  | inl here ↦
      let parts = or_parts (not (row.component == c)) (has_number before row.producer) here in
      let component : (row.component == c) ≡ true = not-false _ parts.0 in
      let producer : (row.producer == row.producer) ≡ true = eq-eqb row.producer row.producer refl in
      (row.producer, record { needed = rw (component, producer) refl; behind = parts.1 })
  | inr later ↦
      let rest = is_ready-misses needs before c later in
      (rest.0, record { needed = or_right _ _ rest.1.needed; behind = rest.1.behind })
]
