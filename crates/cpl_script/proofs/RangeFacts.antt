-- Numbers that follow one another, and those of them that pass a test.
use Rattle.std.proofs.Common.{◌≡◌, ℕ, zero, suc, ◌+◌, ◌<◌, Bool, true, false, cond, List, [], ◌∷◌, ◌++◌, filter, map, ap, ◌∙◌, sym, refl, arith}
use Rattle.std.specs.List.{All, flat_map, range_with_len}
use Rattle.std.proofs.lemmas.List.{append-nil, append_assoc, map-append, map-id}
use Rattle.std.proofs.lemmas.List.Concat.{flat_map-append}
use Rattle.std.proofs.lemmas.List.Elements.{All-cons, All-nil, filter-append}
use Rattle.std.proofs.lemmas.List.FromFn.{map-range_with_len_more}
use Rattle.cpl_sequence.specs.declared.op.Op.{Op}
use Rattle.cpl_sequence.specs.declared.op.Op.TheVariants.{Link as LinkOp}

-- one number more
pub range-next : (a n j : ℕ) → a + n ≡ j → range_with_len a (n + 1) ≡ range_with_len a n ++ j ∷ []
range-next a n j is =
    sym (map-id (range_with_len a (n + 1)))
    ∙ map-range_with_len_more (λ (k : ℕ). k) a n j is
    ∙ ap (λ (ks : List ℕ). ks ++ j ∷ []) (map-id (range_with_len a n))

-- one number more that passes a test, or doesn't
pub filter-next : (p : ℕ → Bool) (n : ℕ) → filter p (range_with_len 0 (n + 1)) ≡ filter p (range_with_len 0 n) ++ cond (p n) (n ∷ []) []
filter-next p n = ap (filter p) (range-next 0 n n (omega arith)) ∙ filter-append p (range_with_len 0 n) (n ∷ [])

-- what one number more gives
pub flat_map-next : {A : Type 0} (f : ℕ → List A) (n : ℕ) → flat_map f (range_with_len 0 (n + 1)) ≡ flat_map f (range_with_len 0 n) ++ flat_map f (n ∷ [])
flat_map-next f n = ap (flat_map f) (range-next 0 n n (omega arith)) ∙ flat_map-append f (range_with_len 0 n) (n ∷ [])

-- each of them is in their range
pub range-within : (P : ℕ → Type 0) (a n : ℕ) → ((k : ℕ) → k < a + n → P k) → All P (range_with_len a n)
range-within P a zero each = All-nil P
range-within P a (suc n) each = All-cons P a (range_with_len (a + 1) n) (each a (omega arith)) (range-within P (a + 1) n (λ k below. each k (omega arith)))

-- none passes a test that fails
pub filter-none : {X : Type 0} (xs : List X) → filter (λ x. false) xs ≡ []
filter-none [] = refl
filter-none (x ∷ xs) = filter-none xs

-- nothing of each is nothing
pub flat_map-none : {X A : Type 0} (f : X → List A) → ((x : X) → f x ≡ []) → (xs : List X) → flat_map f xs ≡ []
flat_map-none f none [] = refl
flat_map-none f none (x ∷ xs) = ap (λ ys. ys ++ flat_map f xs) (none x) ∙ flat_map-none f none xs

-- ---- operations

-- a connector that runs for an initialisation
abbrev pub init_link : ℕ → Op
init_link n = LinkOp n true

-- one connector more that is needed, or isn't
pub needed-next : (before : List Op) (p : ℕ → Bool) (n : ℕ) (b : Bool) → b ≡ p n → before ++ map init_link (filter p (range_with_len 0 n)) ++ cond b (init_link n ∷ []) [] ≡ before ++ map init_link (filter p (range_with_len 0 (n + 1)))
needed-next before p n b is =
    let so_far = filter p (range_with_len 0 n) in
    append_assoc before (map init_link so_far) (cond b (init_link n ∷ []) [])
    ∙ ap (λ (ops : List Op). before ++ (map init_link so_far ++ ops)) (one b)
    ∙ ap (λ (ops : List Op). before ++ ops) (sym (map-append init_link so_far (cond b (n ∷ []) [])))
    ∙ ap (λ (c : Bool). before ++ map init_link (so_far ++ cond c (n ∷ []) [])) is
    ∙ ap (λ (ns : List ℕ). before ++ map init_link ns) (sym (filter-next p n))
  where
    one : (c : Bool) → cond c (init_link n ∷ []) [] ≡ map init_link (cond c (n ∷ []) [])
    one true = refl
    one false = refl

-- the connectors from one producer more
pub needed-more : (before : List Op) (f : ℕ → List ℕ) (n : ℕ) → before ++ map init_link (flat_map f (range_with_len 0 n)) ++ map init_link (f n) ≡ before ++ map init_link (flat_map f (range_with_len 0 (n + 1)))
needed-more before f n =
    let so_far = flat_map f (range_with_len 0 n) in
    append_assoc before (map init_link so_far) (map init_link (f n))
    ∙ ap (λ (ops : List Op). before ++ ops) (sym (map-append init_link so_far (f n)))
    ∙ ap (λ (ns : List ℕ). before ++ map init_link (so_far ++ ns)) (sym (append-nil (f n)))
    ∙ ap (λ (ns : List ℕ). before ++ map init_link ns) (sym (flat_map-next f n))
