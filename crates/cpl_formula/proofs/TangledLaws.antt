-- The walk over the bytes finds brackets and minus signs that are too many exactly where they stand.
use Rattle.std.proofs.Common.{◌≡◌, ℕ, suc, ◌+◌, ◌<◌, ◌≤◌, ◌⊎◌, ◌==◌, true, false, nat_lt, List, [], ◌∷◌, ◌++◌, fold, refl, ap, sym, ◌∙◌, inl, inr, arith}
use Rattle.std.proofs.lemmas.Bool.{cases_Bool, cases_lt, false≢true, le-ltb, lt-ltb}
use Rattle.std.proofs.lemmas.List.Sums.{fold-append}
use Rattle.std.proofs.lemmas.List.{append_assoc}
use Rattle.std.specs.List.{list_all}
use Rattle.cpl_base.specs.Words.{is_blank}
use Rattle.cpl_formula.specs.Tangles.{HasLongRow, Tangles, is_of_row, minuses}
use Rattle.cpl_formula.specs.Tokens.{is_tangled, is_tangled_from, open_after, row_after}

-- somewhere one of the two counts passes 32
record Passes (opened row : ℕ) (text : List ℕ) : Type 0 where
  before : List ℕ
  after : List ℕ
  parted : text ≡ before ++ after
  past : (32 < fold open_after opened before) ⊎ (32 < fold row_after row before)

one_more : (o r c : ℕ) (more : List ℕ) → Passes (open_after o c) (row_after r c) more → Passes o r (c ∷ more)
one_more o r c more p = record { before = c ∷ p.before; after = p.after; parted = ap (λ l. c ∷ l) p.parted; past = p.past }

-- a walk that goes on behind a byte at which neither count has passed
goes_on : (o r c : ℕ) (more : List ℕ) → open_after o c ≤ 32 → row_after r c ≤ 32 → is_tangled_from o r (c ∷ more) ≡ is_tangled_from (open_after o c) (row_after r c) more
goes_on o r c more few short =
    let not_deep : nat_lt 32 (open_after o c) ≡ false = le-ltb _ _ few in
    let not_long : nat_lt 32 (row_after r c) ≡ false = le-ltb _ _ short in
    rw (not_deep, not_long) refl

found : (o r : ℕ) (text : List ℕ) → is_tangled_from o r text ≡ true → Passes o r text
found o r [] tangled = absurd (false≢true tangled)
found o r (c ∷ more) tangled =
    elim (cases_lt 32 (open_after o c)) [
      | inl deep ↦ record { before = c ∷ []; after = more; parted = refl; past = inl deep }
      | inr few ↦
          elim (cases_lt 32 (row_after r c)) [
            | inl long ↦ record { before = c ∷ []; after = more; parted = refl; past = inr long }
            | inr short ↦ one_more o r c more (found (open_after o c) (row_after r c) more (sym (goes_on o r c more few short) ∙ tangled))
          ]
    ]

-- a walk ends at a byte at which a count has passed
stops_open : (o r c : ℕ) (more : List ℕ) → 32 < open_after o c → is_tangled_from o r (c ∷ more) ≡ true
stops_open o r c more deep =
    let past : nat_lt 32 (open_after o c) ≡ true = lt-ltb _ _ deep in
    rw past refl

stops_row : (o r c : ℕ) (more : List ℕ) → open_after o c ≤ 32 → 32 < row_after r c → is_tangled_from o r (c ∷ more) ≡ true
stops_row o r c more few long =
    let not_deep : nat_lt 32 (open_after o c) ≡ false = le-ltb _ _ few in
    let past : nat_lt 32 (row_after r c) ≡ true = lt-ltb _ _ long in
    rw (not_deep, past) refl

finds : (before after : List ℕ) (o r : ℕ) → o ≤ 32 → r ≤ 32 → (32 < fold open_after o before) ⊎ (32 < fold row_after r before) → is_tangled_from o r (before ++ after) ≡ true
finds [] after o r few short (inl past) = absurd (omega arith)
finds [] after o r few short (inr past) = absurd (omega arith)
finds (c ∷ before) after o r few short past =
    elim (cases_lt 32 (open_after o c)) [
      | inl deep ↦ stops_open o r c (before ++ after) deep
      | inr few' ↦
          elim (cases_lt 32 (row_after r c)) [
            | inl long ↦ stops_row o r c (before ++ after) few' long
            | inr short' ↦ goes_on o r c (before ++ after) few' short' ∙ finds before after (open_after o c) (row_after r c) few' short' past
          ]
    ]

-- ---- rows of minus signs

-- a text ends in a row of so many minus signs, or is one behind r of them
record EndsIn (r : ℕ) (text : List ℕ) (n : ℕ) : Type 0 where
  before : List ℕ
  row : List ℕ
  parted : text ≡ before ++ row
  of_row : list_all is_of_row row ≡ true
  counted : (n ≡ minuses row) ⊎ ((before ≡ []) × (n ≡ r + minuses row))

-- one more byte in front of a text that is one row
onto_row : (r c : ℕ) (more : List ℕ) (n : ℕ) (row : List ℕ) → more ≡ row → list_all is_of_row row ≡ true → n ≡ row_after r c + minuses row → EndsIn r (c ∷ more) n
onto_row r c more n row same of_row counted =
    elim (cases_Bool (c == 45)) [
      | inl minus ↦ record { before = []; row = c ∷ row; parted = ap (λ l. c ∷ l) same; of_row = rw minus of_row; counted = inr (refl, rw minus (rw minus at counted ∙ omega arith)) }
      | inr other ↦
          elim (cases_Bool (is_blank c)) [
            | inl blank ↦ record { before = []; row = c ∷ row; parted = ap (λ l. c ∷ l) same; of_row = rw (other, blank) of_row; counted = inr (refl, rw other (rw (other, blank) at counted)) }
            | inr none ↦ record { before = c ∷ []; row = row; parted = ap (λ l. c ∷ l) same; of_row = of_row; counted = inl (rw (other, none) at counted ∙ omega arith) }
          ]
    ]

onto : (r c : ℕ) (more : List ℕ) (n : ℕ) → EndsIn (row_after r c) more n → EndsIn r (c ∷ more) n
onto r c more n e =
    elim e.counted [
      | inl counted ↦ record { before = c ∷ e.before; row = e.row; parted = ap (λ l. c ∷ l) e.parted; of_row = e.of_row; counted = inl counted }
      | inr whole ↦ onto_row r c more n e.row (e.parted ∙ ap (λ l. l ++ e.row) whole.0) e.of_row whole.1
    ]

ends : (r : ℕ) (text : List ℕ) → EndsIn r text (fold row_after r text)
ends r [] = record { before = []; row = []; parted = refl; of_row = refl; counted = inr (refl, omega arith) }
ends r (c ∷ more) = onto r c more (fold row_after (row_after r c) more) (ends (row_after r c) more)

-- a row counts its minus signs
row_counts : (r : ℕ) (row : List ℕ) → list_all is_of_row row ≡ true → fold row_after r row ≡ r + minuses row
row_counts r [] of_row = omega arith
row_counts r (c ∷ row) of_row =
    elim (cases_Bool (c == 45)) [
      | inl minus ↦ rw minus (row_counts (suc r) row (rw minus at of_row) ∙ omega arith)
      | inr other ↦
          elim (cases_Bool (is_blank c)) [
            | inl blank ↦ rw (other, blank) (row_counts r row (rw (other, blank) at of_row))
            | inr none ↦ absurd (false≢true (rw (other, none) at of_row))
          ]
    ]

-- ---- both

-- a row that is long enough, at the end of what stands before a place
row_found : (text before after : List ℕ) → text ≡ before ++ after → 32 < fold row_after 0 before → HasLongRow text
row_found text before after parted long =
    let e = ends 0 before in
    let enough : 32 < minuses e.row = elim e.counted [ inl counted ↦ omega (arith, counted, long) | inr whole ↦ omega (arith, whole.1, long) ] in
    record {
      before = e.before;
      row = e.row;
      after = after;
      parted = parted ∙ ap (λ l. l ++ after) e.parted ∙ append_assoc e.before e.row after;
      of_row = e.of_row;
      long = enough;
    }

pub tangles_found : (text : List ℕ) → is_tangled text ≡ true → Tangles text
tangles_found text tangled =
    let p = found 0 0 text tangled in
    elim p.past [
      | inl deep ↦ inl (record { before = p.before; after = p.after; parted = p.parted; deep = deep })
      | inr long ↦ inr (row_found text p.before p.after p.parted long)
    ]

pub found_tangles : (text : List ℕ) → Tangles text → is_tangled text ≡ true
found_tangles text (inl o) = rw o.parted (finds o.before o.after 0 0 (omega arith) (omega arith) (inl o.deep))
found_tangles text (inr h) =
    let counted : fold row_after 0 (h.before ++ h.row) ≡ fold row_after 0 h.before + minuses h.row = fold-append row_after 0 h.before h.row ∙ row_counts (fold row_after 0 h.before) h.row h.of_row in
    let regrouped : text ≡ (h.before ++ h.row) ++ h.after = h.parted ∙ sym (append_assoc h.before h.row h.after) in
    rw regrouped (finds (h.before ++ h.row) h.after 0 0 (omega arith) (omega arith) (inr (omega (arith, counted, h.long))))
