-- Reads that are noted one by one: each stands among them, none twice, and what holds of each holds of all.
use Rattle.std.proofs.Common.{◌≡◌, ◌≢◌, ℕ, zero, suc, ◌<◌, inl, inr, Bool, true, List, [], ◌∷◌, ◌++◌, length, get_or, refl, sym, ap, ◌∙◌, arith, eq-eqb}
use Rattle.std.specs.Prelude.{fold}
use Rattle.std.specs.List.{AllByRecursion, AllPairs, list_any, position_or_len}
use Rattle.std.proofs.lemmas.Bool.{cases_Bool, false≢true}
use Rattle.std.proofs.lemmas.Bool.Decides.{Decides-int_eq}
use Rattle.std.proofs.lemmas.List.Elements.{All-from_recursion}
use Rattle.std.proofs.lemmas.List.Folds.{list_any-append}
use Rattle.std.proofs.lemmas.List.Quantifiers.{all_pairs_push}
use Rattle.cpl_formula.specs.Reads.{AreReads, IsRead, distinct_reads, with_read, same_name, same_read}
use Rattle.cpl_formula.specs.declared.formula.Read.{Read}
use Rattle.cpl_formula.specs.declared.formula.ReadName.{ReadName}
use Rattle.cpl_formula.specs.declared.formula.ReadName.TheVariants as names

-- ---- a read is the same as itself

same_name-self : (n : ReadName) → same_name n n ≡ true
same_name-self (names.Field k) = eq-eqb k k refl
same_name-self (names.Ring k) = eq-eqb k k refl
same_name-self n = refl

pub same_read-self : (r : Read) → same_read r r ≡ true
same_read-self r = rw (same_name-self r.name, (Decides-int_eq r.dx r.dx).1 refl, (Decides-int_eq r.dy r.dy).1 refl) refl

-- ---- each read has a place

-- a read stands among reads
abbrev pub Stands : List Read → Read → Type 0
Stands reads r = list_any (same_read r) reads ≡ true

-- noting a read keeps those that stand already, and it stands behind them
with_read-keeps : (q r : Read) (reads : List Read) → Stands reads q → Stands (with_read reads r) q
with_read-keeps q r reads stands =
    elim (cases_Bool (list_any (same_read r) reads)) [
      | inl there ↦ rw there stands
      | inr new ↦ rw (new, list_any-append, stands) refl
    ]

with_read-stands : (r : Read) (reads : List Read) → Stands (with_read reads r) r
with_read-stands r reads =
    elim (cases_Bool (list_any (same_read r) reads)) [
      | inl there ↦ rw there there
      | inr new ↦ rw (new, list_any-append, new, same_read-self) refl
    ]

-- and so do those that are noted one by one
all-kept : (q : Read) (more reads : List Read) → Stands reads q → Stands (fold with_read reads more) q
all-kept q [] reads stands = stands
all-kept q (r ∷ more) reads stands = all-kept q more (with_read reads r) (with_read-keeps q r reads stands)

all-stand : (more reads : List Read) → AllByRecursion (Stands (fold with_read reads more)) more
all-stand [] reads = tt
all-stand (r ∷ more) reads = (all-kept r more (with_read reads r) (with_read-stands r reads), all-stand more (with_read reads r))

-- each of some reads stands among them, each once
pub distinct_reads-stand : (reads : List Read) → AllByRecursion (Stands (distinct_reads reads)) reads
distinct_reads-stand reads = all-stand reads []

-- the first place that passes is within, where some member passes
pub first-within : {X : Type 0} (p : X → Bool) (xs : List X) → list_any p xs ≡ true → position_or_len p xs < length xs
first-within p [] some = cc
first-within p (x ∷ xs) some = elim (cases_Bool (p x)) [
  | inl here ↦ rw here (omega arith)
  | inr other ↦ let later : list_any p xs ≡ true = rw other at some in rw other (omega (arith, first-within p xs later))
]

-- ---- none stands twice

-- some member passes, where one at a place does
any-at : {X : Type 0} (p : X → Bool) (xs : List X) (k : ℕ) (d : X) → k < length xs → p (get_or xs k d) ≡ true → list_any p xs ≡ true
any-at p [] k d below is = absurd (omega arith)
any-at p (x ∷ xs) zero d below is = rw is refl
any-at p (x ∷ xs) (suc k) d below is = elim (cases_Bool (p x)) [
  | inl here ↦ rw here refl
  | inr other ↦ rw other (any-at p xs k d (omega arith) is)
]

with_read-distinct : (r : Read) (reads : List Read) → AllPairs (λ a b. a ≢ b) reads → AllPairs (λ a b. a ≢ b) (with_read reads r)
with_read-distinct r reads apart =
    elim (cases_Bool (list_any (same_read r) reads)) [
      | inl there ↦ rw there apart
      | inr new ↦
          rw new (all_pairs_push (λ a b. a ≢ b) reads r apart (λ k d below same.
          let found : list_any (same_read r) reads ≡ true = any-at (same_read r) reads k d below (ap (same_read r) same ∙ same_read-self r) in
          false≢true (sym new ∙ found)))
    ]

all-distinct : (more reads : List Read) → AllPairs (λ a b. a ≢ b) reads → AllPairs (λ a b. a ≢ b) (fold with_read reads more)
all-distinct [] reads apart = apart
all-distinct (r ∷ more) reads apart = all-distinct more (with_read reads r) (with_read-distinct r reads apart)

-- ---- what holds of each

pushed : {X : Type 0} (P : X → Type 0) (xs : List X) (x : X) → AllByRecursion P xs → P x → AllByRecursion P (xs ++ x ∷ [])
pushed P [] x all last = (last, tt)
pushed P (y ∷ xs) x all last = (all.0, pushed P xs x all.1 last)

with_read-all : (P : Read → Type 0) (r : Read) (reads : List Read) → AllByRecursion P reads → P r → AllByRecursion P (with_read reads r)
with_read-all P r reads all last =
    elim (cases_Bool (list_any (same_read r) reads)) [
      | inl there ↦ rw there all
      | inr new ↦ rw new (pushed P reads r all last)
    ]

all-with_read : (P : Read → Type 0) (more reads : List Read) → AllByRecursion P reads → AllByRecursion P more → AllByRecursion P (fold with_read reads more)
all-with_read P [] reads all rest = all
all-with_read P (r ∷ more) reads all rest = all-with_read P more (with_read reads r) (with_read-all P r reads all rest.0) rest.1

-- and so for reads, each once
pub distinct_reads-all : (P : Read → Type 0) (reads : List Read) → AllByRecursion P reads → AllByRecursion P (distinct_reads reads)
distinct_reads-all P reads all = all-with_read P reads [] tt all

-- reads among so many fields and alarms, each once
pub distinct_reads-among : (fields alarms : ℕ) (reads : List Read) → AllByRecursion (IsRead fields alarms) reads → AreReads fields alarms (distinct_reads reads)
distinct_reads-among fields alarms reads all = record {
  among = All-from_recursion (IsRead fields alarms) (distinct_reads reads) (distinct_reads-all (IsRead fields alarms) reads all);
  distinct = all-distinct reads [] (λ i j d before below. absurd (omega arith));
}
