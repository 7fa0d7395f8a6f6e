-- What a reader has left, before and after a record.
use Rattle.std.proofs.Common.{◌≡◌, ◌⊎◌, ◌∙◌, ℕ, zero, suc, ◌+◌, ◌<◌, ◌≤◌, Bool, true, false, List, [], ◌∷◌, ◌++◌, length, Option, Some, None, refl, sym, ap, inl, inr, arith, Bor, add-one}
use Rattle.std.proofs.lemmas.Bool.{cases_Bool}
use Rattle.csv.specs.Machine.{Read, ends_at_end, fields_after, field_after, is_end, next_record, step}
use Rattle.csv.specs.Reading.{ReadRecord, Reached, Ready, default_config, reader_trim, records_from, records_next}
use Rattle.csv.specs.declared.parser.Config.{Config}
use Rattle.csv.specs.declared.parser.State.{State}
use Rattle.csv.specs.declared.parser.State.TheVariants as st
use Rattle.csv.specs.declared.reader.Reader.{Reader}
use Rattle.csv.specs.declared.reader.Trim.TheVariants as trim
use Rattle.csv.proofs.ReadFacts.{rows-end, rows-more}
use Rattle.cpl_smm.specs.Kept.{IsReading, ReadsOn, records_in}

-- a record that was read leaves fewer bytes, or ends the text
next_record-shorter : (cfg : Config) (s : State) (fields : List (List ℕ)) (field xs : List ℕ) (p : Read) → next_record cfg s fields field xs ≡ Some p
    → (length p.2 < length xs) ⊎ ((p.1 ≡ st.StartRecord) × (p.2 ≡ []))
unfolding next_record
next_record-shorter cfg s fields field [] p h =
    elim (cases_Bool (ends_at_end s)) [
      | inl here ↦
          let e = rw here at h in
          let same : ◌≡◌ {A = Read} (fields ++ (field ∷ []), st.StartRecord, []) p = cc in
          inr (sym (ap (λ q. q.1) same), sym (ap (λ q. q.2) same))
      | inr on ↦ let e = rw on at h in absurd (cc)
    ]
next_record-shorter cfg s fields field (c ∷ rest) p h =
    elim (cases_Bool (is_end (step cfg s c).1)) [
      | inl here ↦
          let e = rw here at h in
          let same : ◌≡◌ {A = Read} (fields_after (step cfg s c).1 fields field, (step cfg s c).0, rest) p = cc in
          inl (rw (sym (ap (λ q. q.2) same)) (omega arith))
      | inr on ↦
          let e = rw on at h in
          elim (next_record-shorter cfg (step cfg s c).0 (fields_after (step cfg s c).1 fields field) (field_after (step cfg s c).1 c field) rest p e) [
            | inl less ↦ inl (omega arith)
            | inr end ↦ inr end
          ]
    ]

-- no record is left at the end of a text
records_from-end : (cfg : Config) (n : ℕ) (s : State) (xs : List ℕ) → s ≡ st.StartRecord → xs ≡ [] → records_from cfg n s xs ≡ []
unfolding records_from next_record
records_from-end cfg zero s xs start end = refl
records_from-end cfg (suc n) s xs start end = rw (start, end) refl

-- the records behind the next one, where two counts give the same
records_next-same : (cfg : Config) (n m : ℕ) (s : State) (xs : List ℕ) (o : Option Read) → next_record cfg s [] [] xs ≡ o
    → length xs ≤ n → length xs ≤ m
    → ((s2 : State) (ys : List ℕ) → length ys < n → length ys < m → records_from cfg n s2 ys ≡ records_from cfg m s2 ys)
    → records_next (records_from cfg n) o ≡ records_next (records_from cfg m) o
records_next-same cfg n m s xs None is a b more = refl
records_next-same cfg n m s xs (Some p) is a b more =
    elim (next_record-shorter cfg s [] [] xs p is) [
      | inl less ↦ ap (λ rs. p.0 ∷ rs) (more p.1 p.2 (omega arith) (omega arith))
      | inr end ↦ ap (λ rs. p.0 ∷ rs) (records_from-end cfg n p.1 p.2 end.0 end.1 ∙ sym (records_from-end cfg m p.1 p.2 end.0 end.1))
    ]

-- any count above that of the bytes gives all records
records_from-same : (cfg : Config) (n m : ℕ) (s : State) (xs : List ℕ) → length xs < n → length xs < m → records_from cfg n s xs ≡ records_from cfg m s xs
unfolding records_from
records_from-same cfg zero m s xs a b = absurd (omega arith)
records_from-same cfg (suc n) zero s xs a b = absurd (omega arith)
records_from-same cfg (suc n) (suc m) s xs a b =
    records_next-same cfg n m s xs (next_record cfg s [] [] xs) refl (omega arith) (omega arith) (λ s2 ys c d. records_from-same cfg n m s2 ys c d)

-- the records of a text are the next one and those behind it
records_from-next : (s s2 : State) (xs ys : List ℕ) (fields : List (List ℕ)) → Reached default_config s xs (fields ∷ []) s2 ys
    → records_from default_config (length xs + 1) s xs ≡ fields ∷ records_from default_config (length ys + 1) s2 ys
unfolding records_from Reached
records_from-next s s2 xs ys fields reached =
    let (p, is, first, ends) = reached in
    let (there, left) = ends in
    let few : length p.2 ≤ length xs = elim (next_record-shorter default_config s [] [] xs p is) [ inl less ↦ omega arith | inr end ↦ rw (end.1) (omega arith) ] in
    let more = records_from-same default_config (length xs + 1) (suc (suc (length xs))) s xs (omega arith) (omega arith) in
    let rest = records_from-same default_config (suc (length xs)) (length p.2 + 1) p.1 p.2 (omega arith) (omega arith) in
    more ∙ ap (records_next (records_from default_config (suc (length xs)))) is ∙ ap (λ rs. p.0 ∷ rs) rest ∙ (λ i. sym first i ∷ records_from default_config (length (left i) + 1) (there i) (left i))

-- no record is left
records_from-none : (s : State) (xs : List ℕ) → next_record default_config s [] [] xs ≡ None → records_from default_config (length xs + 1) s xs ≡ []
unfolding records_from
records_from-none s xs none = rw add-one (ap (records_next (records_from default_config (length xs))) none)

-- what a reader's next record leaves
pub reads_on : (a b : Reader (Bor (List ℕ))) (found : Bool) (fields : List (List ℕ)) → IsReading a
    → (reader_trim a ≡ trim.None → Ready a → ReadRecord (λ (s : Bor (List ℕ)). Some s.now) a b found fields) → Ready b → ReadsOn a b fields found
unfolding Reached
reads_on a b true fields reading reads ready =
    let read = reads reading.trim reading.ready in
    let (z, known, reached) = rows-more (λ (s : Bor (List ℕ)). Some s.now) a b fields default_config a.state reading.bytes reading.bytes [] reading.config reading.known (refl, refl) read in
    record {
      reading = record { config = read.2 ∙ reading.config; trim = read.3 ∙ reading.trim; ready = ready; bytes = z; known = known };
      left = ap (records_in a.state) reading.known ∙ records_from-next a.state b.state reading.bytes z fields reached ∙ ap (λ rs. fields ∷ rs) (sym (ap (records_in b.state) known));
    }
reads_on a b false fields reading reads ready =
    let none = rows-end (λ (s : Bor (List ℕ)). Some s.now) a b fields default_config reading.bytes reading.config reading.known (reads reading.trim reading.ready) in
    ap (records_in a.state) reading.known ∙ records_from-none a.state reading.bytes none
