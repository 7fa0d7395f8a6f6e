-- States of components beside the world: where one of both is changed, each state still belongs to its component.
use Rattle.std.proofs.Common.{◌≡◌, ◌≢◌, ℕ, ◌<◌, List, length, get_or, set, sym, subst, inl, inr}
use Rattle.std.proofs.lemmas.Bool.{cases_eq}
use Rattle.std.proofs.lemmas.List.{get_or-set_other, get_or-set_same}
use Rattle.cpl_comp.proofs.ChangeFacts.{changed-here, changed-other}
use Rattle.cpl_comp.specs.Worlds.{CompWorld, changed}
use Rattle.cpl_script.specs.Transfers.{World, comp_at, no_comp}

-- what holds of a component and its state, where another is changed
related-other : {L : Type 0} (R : ℕ → CompWorld → L → Type 0) (d local : L) (k c : ℕ) (change : CompWorld → CompWorld)
    (world : World) (locals : List L) → c ≢ k
    → R c (comp_at world c) (get_or locals c d) → R c (comp_at (changed change k world) c) (get_or (set locals k local) c d)
related-other R d local k c change world locals other holds =
    subst (λ w. R c w (get_or (set locals k local) c d)) (sym (changed-other change k c world no_comp other))
    (subst (R c (comp_at world c)) (sym (get_or-set_other locals k c local d other)) holds)

-- and where both are changed
related-here : {L : Type 0} (R : ℕ → CompWorld → L → Type 0) (d local : L) (k : ℕ) (change : CompWorld → CompWorld)
    (world : World) (locals : List L) → k < length world → k < length locals
    → R k (change (comp_at world k)) local → R k (comp_at (changed change k world) k) (get_or (set locals k local) k d)
related-here R d local k change world locals below inside holds =
    subst (λ w. R k w (get_or (set locals k local) k d)) (sym (changed-here change k world no_comp below))
    (subst (R k (change (comp_at world k))) (sym (get_or-set_same locals k local d inside)) holds)

-- what holds of each component and its state holds after a change of one component, where it holds of that one and its
-- new state
pub related-changed : {L : Type 0} (R : ℕ → CompWorld → L → Type 0) (d local : L) (n k : ℕ) (change : CompWorld → CompWorld)
    (world : World) (locals : List L)
    → length world ≡ n → length locals ≡ n → k < n
    → ((c : ℕ) → c < n → R c (comp_at world c) (get_or locals c d))
    → R k (change (comp_at world k)) local
    → (c : ℕ) → c < n → R c (comp_at (changed change k world) c) (get_or (set locals k local) c d)
related-changed R d local n k change world locals size count below each holds c inside = elim (cases_eq c k) [
  | inl same ↦ subst (λ j. R j (comp_at (changed change k world) j) (get_or (set locals k local) j d)) (sym same)
      (related-here R d local k change world locals (subst (λ m. k < m) (sym size) below) (subst (λ m. k < m) (sym count) below) holds)
  | inr other ↦ related-other R d local k c change world locals other (each c inside)
]

-- the same, where the state stays as it is
pub related-kept : {L : Type 0} (R : ℕ → CompWorld → L → Type 0) (d : L) (n k : ℕ) (change : CompWorld → CompWorld) (world : World) (locals : List L)
    → length world ≡ n → k < n
    → ((c : ℕ) → c < n → R c (comp_at world c) (get_or locals c d))
    → R k (change (comp_at world k)) (get_or locals k d)
    → (c : ℕ) → c < n → R c (comp_at (changed change k world) c) (get_or locals c d)
related-kept R d n k change world locals size below each holds c inside = elim (cases_eq c k) [
  | inl same ↦ subst (λ j. R j (comp_at (changed change k world) j) (get_or locals j d)) (sym same)
      (subst (λ w. R k w (get_or locals k d)) (sym (changed-here change k world no_comp (subst (λ m. k < m) (sym size) below))) holds)
  | inr other ↦ subst (λ w. R c w (get_or locals c d)) (sym (changed-other change k c world no_comp other)) (each c inside)
]
