-- Lists that are joined: places in them, and facts of each member.
use Rattle.std.proofs.Common.{◌≡◌, ℕ, zero, suc, ◌+◌, ◌*◌, ◌/◌, ◌<◌, List, [], ◌∷◌, ◌++◌, length, get_or, Some, refl, ap, subst, arith}
use Rattle.std.specs.Prelude.{slice_get}
use Rattle.std.specs.List.{All, flat_map, range_with_len}
use Rattle.std.proofs.lemmas.List.Elements.{All-append, All-nil}
use Rattle.std.proofs.lemmas.Option.{get_or_from_slice_get, slice_get-get_or, slice_get_within}
use Rattle.cpl_sequence.specs.Operations.{iterations}
use Rattle.cpl_sequence.specs.declared.op.Op.{Op}
use Rattle.cpl_sequence.proofs.TreeFacts.{Every}

-- a place in the first of two lists
pub slice_get-append_left : {A : Type 0} (xs ys : List A) (i : ℕ) → i < length xs → slice_get (xs ++ ys) i ≡ slice_get xs i
slice_get-append_left [] ys i inside = absurd (omega arith)
slice_get-append_left (x ∷ xs) ys zero inside = refl
slice_get-append_left (x ∷ xs) ys (suc i) inside = slice_get-append_left xs ys i (omega arith)

-- a place in the second
pub slice_get-append_right : {A : Type 0} (xs ys : List A) (n i : ℕ) → n ≡ length xs + i → slice_get (xs ++ ys) n ≡ slice_get ys i
slice_get-append_right [] ys n i is = ap (slice_get ys) (let same : n ≡ i = omega arith in same)
slice_get-append_right (x ∷ xs) ys zero i is = absurd (omega arith)
slice_get-append_right (x ∷ xs) ys (suc n) i is = slice_get-append_right xs ys n i (omega arith)

-- a fact of what stands at a place
pub All-at : {A : Type 0} (P : A → Type 0) (xs : List A) (k : ℕ) (x : A) → All P xs → slice_get xs k ≡ Some x → P x
All-at P xs k x all got = subst P (get_or_from_slice_get xs k x x got) (all k x (slice_get_within xs k x got))

-- a fact of what stands at each place
pub All-from_places : {A : Type 0} (P : A → Type 0) (xs : List A) → ((k : ℕ) (x : A) → slice_get xs k ≡ Some x → P x) → All P xs
All-from_places P xs each = λ k d inside. each k (get_or xs k d) (slice_get-get_or xs k d inside)

-- the same, of each
pub Every-from_places : {A : Type 0} (P : A → Type 0) (xs : List A) → ((k : ℕ) (x : A) → slice_get xs k ≡ Some x → P x) → Every P xs
Every-from_places P [] each = tt
Every-from_places P (x ∷ xs) each = (each 0 x refl, Every-from_places P xs (λ k y got. each (suc k) y got))

-- a fact of what each member gives
pub All-flat_map : {A B : Type 0} (P : B → Type 0) (f : A → List B) (xs : List A) → Every (λ x. All P (f x)) xs → All P (flat_map f xs)
All-flat_map P f [] each = All-nil P
All-flat_map P f (x ∷ xs) each = All-append P (f x) (flat_map f xs) each.0 (All-flat_map P f xs each.1)

-- of what each number gives, from one on
All-range : {B : Type 0} (P : B → Type 0) (f : ℕ → List B) (from count : ℕ) → ((n : ℕ) → n < from + count → All P (f n)) → All P (flat_map f (range_with_len from count))
All-range P f from zero each = All-nil P
All-range P f from (suc count) each =
    All-append P (f from) (flat_map f (range_with_len (from + 1) count)) (each from (omega arith)) (All-range P f (from + 1) count (λ n inside. each n (omega arith)))

-- of each operation of a loop
pub All-iterations : (P : Op → Type 0) (body : ℕ → List Op) (step duration time : ℕ) → ((n : ℕ) → n < duration / step → All P (body (time + n * step))) → All P (iterations body step duration time)
All-iterations P body step duration time each = All-range P (λ n. body (time + n * step)) 0 (duration / step) (λ n inside. each n (omega arith))
