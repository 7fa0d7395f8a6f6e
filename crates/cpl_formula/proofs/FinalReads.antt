-- Noted reads: each has its number once it is noted, whatever is noted behind it.
use Rattle.std.proofs.Common.{◌≡◌, ℕ, ◌+◌, Bool, true, false, cond, not, List, [], ◌∷◌, ◌++◌, refl, sym, ap, ◌∙◌, append_assoc, append-nil, true≢false}
use Rattle.std.specs.List.{list_any, position_or_len}
use Rattle.std.proofs.lemmas.List.Sums.{fold-append}
use Rattle.cpl_formula.specs.Grammar.{input_of}
use Rattle.cpl_formula.specs.Reads.{same_read, with_read, distinct_reads}
use Rattle.cpl_formula.specs.declared.formula.Formula.{roll-Formula}
use Rattle.cpl_formula.specs.declared.formula.Formula.TheOpen as tree
use Rattle.cpl_formula.specs.declared.formula.Read.{Read}
use Rattle.cpl_formula.proofs.ReadsFacts.{same_read-self}

-- ---- the number of a read

found_by : {A : Type 0} (p : A → Bool) (x : A) (xs ys : List A) (b : Bool) → p x ≡ b → list_any p (x ∷ xs) ≡ true
    → (list_any p xs ≡ true → position_or_len p (xs ++ ys) ≡ position_or_len p xs)
    → position_or_len p (x ∷ (xs ++ ys)) ≡ position_or_len p (x ∷ xs)
found_by p x xs ys true passes is_there rest = rw passes refl
found_by p x xs ys false passes is_there rest =
    let later : list_any p xs ≡ true = rw passes at is_there in
    ap (λ (n : ℕ). cond (not (p x)) (1 + n) 0) (rest later)

found : {A : Type 0} (p : A → Bool) (xs ys : List A) → list_any p xs ≡ true → position_or_len p (xs ++ ys) ≡ position_or_len p xs
found p [] ys is_there = absurd (true≢false (sym is_there))
found p (x ∷ xs) ys is_there = found_by p x xs ys (p x) refl is_there (found p xs ys)

next_up : {A : Type 0} (p : A → Bool) (xs : List A) (x : A) (ys : List A) → p x ≡ true → position_or_len p ((xs ++ x ∷ []) ++ ys) ≡ position_or_len p xs
next_up p [] x ys is_it = rw is_it refl
next_up p (y ∷ xs) x ys is_it = ap (λ (n : ℕ). cond (not (p y)) (1 + n) 0) (next_up p xs x ys is_it)

-- all these reads, and maybe more behind them
pub record Extends (all reads : List Read) : Type 0 where
  pub more : List Read
  pub parted : all ≡ reads ++ more

pub extends_self : (reads : List Read) → Extends reads reads
extends_self reads = record { more = []; parted = sym (append-nil reads) }

pub extends_through : (all mid reads : List Read) → Extends all mid → Extends mid reads → Extends all reads
extends_through all mid reads a b =
    record { more = b.more ++ a.more; parted = a.parted ∙ ap (λ (m : List Read). m ++ a.more) b.parted ∙ append_assoc reads b.more a.more }

noted_by : (reads : List Read) (r : Read) (b : Bool) → list_any (same_read r) reads ≡ b → Extends (with_read reads r) reads
noted_by reads r true is_there = rw is_there (extends_self reads)
noted_by reads r false is_there = rw is_there (record { more = r ∷ []; parted = refl })

pub extends_noted : (reads : List Read) (r : Read) → Extends (with_read reads r) reads
extends_noted reads r = noted_by reads r (list_any (same_read r) reads) refl

-- the number of a read among the reads so far, and among all
number_by : (all reads : List Read) (r : Read) (b : Bool) → list_any (same_read r) reads ≡ b → Extends all (with_read reads r)
    → position_or_len (same_read r) reads ≡ position_or_len (same_read r) all
number_by all reads r true is_there rest =
    let stays : Extends all reads = rw is_there at rest in
    sym (ap (position_or_len (same_read r)) stays.parted ∙ found (same_read r) reads stays.more is_there)
number_by all reads r false is_there rest =
    let grows : Extends all (reads ++ r ∷ []) = rw is_there at rest in
    sym (ap (position_or_len (same_read r)) grows.parted ∙ next_up (same_read r) reads r grows.more (same_read-self r))

pub input_same : (all reads : List Read) (r : Read) → Extends all (with_read reads r) → input_of reads r ≡ input_of all r
input_same all reads r rest = ap (λ n. roll-Formula (tree.Input n)) (number_by all reads r (list_any (same_read r) reads) refl rest)

-- one read more
pub distinct_snoc : (reads : List Read) (r : Read) → distinct_reads (reads ++ r ∷ []) ≡ with_read (distinct_reads reads) r
distinct_snoc reads r = fold-append with_read [] reads (r ∷ [])
