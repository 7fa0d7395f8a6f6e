-- Factors that ascend by the numbers of their pairs.
use Rattle.std.proofs.Common.{◌≡◌, ◌∙◌, ℕ, ◌<◌, ◌≤◌, ◌==◌, Bool, List, [], ◌∷◌, filter, find, None, refl, sym, ap, inl, inr, arith}
use Rattle.std.proofs.lemmas.Bool.{cases_Bool, ne_eqb}
use Rattle.cpl_smm.specs.Kept.{Ascends, pair_of}
use Rattle.cpl_smm.specs.declared.entries.KeptFactor.{KeptFactor}
use Rattle.cpl_smm.proofs.MemberFacts.{IsIn}

-- the same from above a lesser number
pub Ascends-lower : (low less : ℕ) (factors : List KeptFactor) → less ≤ low → Ascends low factors → Ascends less factors
unfolding Ascends
Ascends-lower low less [] below up = tt
Ascends-lower low less (factor ∷ factors) below up = (omega (arith, up.0, up.1), up.1, up.2)

-- each member is above
pub Ascends-member : (low : ℕ) (factors : List KeptFactor) (factor : KeptFactor) → Ascends low factors → IsIn factor factors → low < pair_of factor
unfolding Ascends
Ascends-member low [] factor up here = absurd here
Ascends-member low (first ∷ factors) factor up (inl same) = rw same up.0
Ascends-member low (first ∷ factors) factor up (inr there) =
    let above = Ascends-member (pair_of first) factors factor up.2 there in omega (arith, up.0, up.1, above)

-- its source cell is below 2^32
pub Ascends-narrow : (low : ℕ) (factors : List KeptFactor) (factor : KeptFactor) → Ascends low factors → IsIn factor factors → factor.src < 4294967296
unfolding Ascends
Ascends-narrow low [] factor up here = absurd here
Ascends-narrow low (first ∷ factors) factor up (inl same) = rw same up.1
Ascends-narrow low (first ∷ factors) factor up (inr there) = Ascends-narrow (pair_of first) factors factor up.2 there

-- a pair stands once
pub Ascends-unique : (low : ℕ) (factors : List KeptFactor) (a b : KeptFactor) → Ascends low factors → IsIn a factors → IsIn b factors → pair_of a ≡ pair_of b → a ≡ b
unfolding Ascends
Ascends-unique low [] a b up here there same = absurd here
Ascends-unique low (first ∷ factors) a b up (inl one) (inl other) same = one ∙ sym other
Ascends-unique low (first ∷ factors) a b up (inl one) (inr there) same =
    let above = Ascends-member (pair_of first) factors b up.2 there in
    let is : pair_of a ≡ pair_of first = ap (λ (f : KeptFactor). pair_of f) one in
    absurd (omega (arith, above, same, is))
Ascends-unique low (first ∷ factors) a b up (inr here) (inl other) same =
    let above = Ascends-member (pair_of first) factors a up.2 here in
    let is : pair_of b ≡ pair_of first = ap (λ (f : KeptFactor). pair_of f) other in
    absurd (omega (arith, above, same, is))
Ascends-unique low (first ∷ factors) a b up (inr here) (inr there) same = Ascends-unique (pair_of first) factors a b up.2 here there same

-- some of them ascend too
pub Ascends-filter : (p : KeptFactor → Bool) (low : ℕ) (factors : List KeptFactor) → Ascends low factors → Ascends low (filter p factors)
unfolding Ascends
Ascends-filter p low [] up = tt
Ascends-filter p low (factor ∷ factors) up =
    elim (cases_Bool (p factor)) [
      | inl kept ↦ rw kept (up.0, up.1, Ascends-filter p (pair_of factor) factors up.2)
      | inr gone ↦ rw gone (Ascends-lower (pair_of factor) low (filter p factors) (omega (arith, up.0, up.1)) (Ascends-filter p (pair_of factor) factors up.2))
    ]

-- none has a number that isn't above
pub Ascends-find_none : (low key : ℕ) (factors : List KeptFactor) → key ≤ low → Ascends low factors → find (λ factor. pair_of factor == key) factors ≡ None
unfolding Ascends
Ascends-find_none low key [] below up = refl
Ascends-find_none low key (factor ∷ factors) below up =
    rw (ne_eqb (pair_of factor) key (λ e. omega (arith, up.0, up.1, e))) (Ascends-find_none (pair_of factor) key factors (omega (arith, up.0, up.1)) up.2)

-- all are above a number where each is
pub Ascends-raise : (low high : ℕ) (factors : List KeptFactor) → Ascends low factors → ((factor : KeptFactor) → IsIn factor factors → high < pair_of factor) → Ascends high factors
unfolding Ascends
Ascends-raise low high [] up above = tt
Ascends-raise low high (factor ∷ factors) up above = (above factor (inl refl), up.1, up.2)
