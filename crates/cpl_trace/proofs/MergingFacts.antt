-- Two lists of rows, merged: their order, their keys, their sums, and what holds of each row.
use Rattle.std.proofs.Common.{◌≡◌, ℕ, ℤ, pos, ◌+◌, ◌≤◌, ◌+ℤ◌, Bool, true, false, ◌||◌, cond, List, [], ◌∷◌, ◌++◌, refl, subst, sym, ap, ◌∙◌, arith, append-nil, length, get_or, take, drop, inl, inr, ◌⊎◌, ◌<◌}
use Rattle.std.specs.List.{All}
use Rattle.std.proofs.lemmas.Int.{ints}
use Rattle.std.proofs.lemmas.List.{drop_all, take-append-drop}
use Rattle.std.proofs.lemmas.Grind.{flat_map-append}
use Rattle.std.proofs.lemmas.List.Elements.{All-cons, All-head, All-same, All-tail, All-weaker}
use Rattle.std.proofs.lemmas.List.Folds.{list_any-append}
use Rattle.cpl_trace.specs.Logs.{Log}
use Rattle.cpl_trace.specs.Merging.{rows_of}
use Rattle.cpl_trace.specs.Rows.{AgreesWith, IsAscending, has_row, is_at, is_before, sum_at}
use Rattle.cpl_trace.specs.Steps.{IsSummed, IsWithin, joined, merge_row, merge_rows}
use Rattle.cpl_trace.specs.declared.row.TraceRow.{TraceRow}
use Rattle.cpl_trace.proofs.OrderFacts.{HasKeyOf-neither, is_at-key, is_before-key, is_before-trans}

-- one of three
pick : (P : List TraceRow → Type 0) (before after : Bool) (a b c : List TraceRow) → (before ≡ true → P a) → (before ≡ false → after ≡ true → P b) → (before ≡ false → after ≡ false → P c) → P (cond before a (cond after b c))
pick P true after a b c at_a at_b at_c = at_a refl
pick P false true a b c at_a at_b at_c = at_b refl refl
pick P false false a b c at_a at_b at_c = at_c refl refl

-- ---- keys

or-assoc : (a b c : Bool) → (a || (b || c)) ≡ ((a || b) || c)
or-assoc true b c = refl
or-assoc false b c = refl

or-third : (a b c d : Bool) → (a || ((b || c) || d)) ≡ ((b || c) || (a || d))
or-third true true c d = refl
or-third true false true d = refl
or-third true false false d = refl
or-third false b c d = refl

or-join : (a b c : Bool) → (a || (b || c)) ≡ ((a || b) || (a || c))
or-join true b c = refl
or-join false b c = refl

has_row-merge_row : (op field : ℕ) (row : TraceRow) (merge : List TraceRow → List TraceRow) (rest : Bool) → ((others : List TraceRow) → has_row op field (merge others) ≡ (rest || has_row op field others)) → (others : List TraceRow) → has_row op field (merge_row row merge others) ≡ ((is_at op field row || rest) || has_row op field others)
has_row-merge_row op field row merge rest is [] = ap (λ b. is_at op field row || b) (is []) ∙ or-assoc (is_at op field row) rest false
has_row-merge_row op field row merge rest is (other ∷ others) =
    let r = is_at op field row in
    let o = is_at op field other in
    let h = has_row op field others in
    pick (λ rows. has_row op field rows ≡ ((r || rest) || (o || h))) (is_before row other) (is_before other row) (row ∷ merge (other ∷ others)) (other ∷ merge_row row merge others) (joined row other ∷ merge others)
    (λ _. ap (λ b. r || b) (is (other ∷ others)) ∙ or-assoc r rest (o || h))
    (λ _ _. ap (λ b. o || b) (has_row-merge_row op field row merge rest is others) ∙ or-third o r rest h)
    (λ first second. ap (λ b. r || b) (is others) ∙ or-join r rest h ∙ ap (λ b. (r || rest) || (b || h)) (is_at-key op field row other (HasKeyOf-neither row other first second)))

-- a merged list has the keys of both
pub has_row-merge_rows : (op field : ℕ) (rows others : List TraceRow) → has_row op field (merge_rows rows others) ≡ (has_row op field rows || has_row op field others)
has_row-merge_rows op field [] others = refl
has_row-merge_rows op field (row ∷ rows) others =
    has_row-merge_row op field row (merge_rows rows) (has_row op field rows) (λ more. has_row-merge_rows op field rows more) others

-- ---- sums

abbrev part : Bool → ℤ → ℤ
part is sum = cond is sum (pos 0)

plus-assoc : (a b c : ℤ) → a +ℤ (b +ℤ c) ≡ (a +ℤ b) +ℤ c
plus-assoc a b c = omega (arith, ints)

plus-third : (a b c d : ℤ) → a +ℤ ((b +ℤ c) +ℤ d) ≡ (b +ℤ c) +ℤ (a +ℤ d)
plus-third a b c d = omega (arith, ints)

plus-join : (a b c d : ℤ) → (a +ℤ b) +ℤ (c +ℤ d) ≡ (a +ℤ c) +ℤ (b +ℤ d)
plus-join a b c d = omega (arith, ints)

plus-zero : (a : ℤ) → pos 0 +ℤ a ≡ a
plus-zero a = omega (arith, ints)

part-joined : (is other : Bool) (a b : ℤ) → is ≡ other → part is (a +ℤ b) ≡ part is a +ℤ part other b
part-joined true other a b same = ap (λ o. a +ℤ part o b) same
part-joined false other a b same = sym (plus-zero (pos 0)) ∙ ap (λ o. pos 0 +ℤ part o b) same

sum_at-merge_row : (op field : ℕ) (row : TraceRow) (merge : List TraceRow → List TraceRow) (rest : ℤ) → ((others : List TraceRow) → sum_at op field (merge others) ≡ rest +ℤ sum_at op field others) → (others : List TraceRow) → sum_at op field (merge_row row merge others) ≡ (part (is_at op field row) row.sum +ℤ rest) +ℤ sum_at op field others
sum_at-merge_row op field row merge rest is [] =
    let r = part (is_at op field row) row.sum in
    ap (λ z. r +ℤ z) (is []) ∙ plus-assoc r rest (pos 0)
sum_at-merge_row op field row merge rest is (other ∷ others) =
    let r = part (is_at op field row) row.sum in
    let o = part (is_at op field other) other.sum in
    let s = sum_at op field others in
    pick (λ rows. sum_at op field rows ≡ (r +ℤ rest) +ℤ (o +ℤ s)) (is_before row other) (is_before other row) (row ∷ merge (other ∷ others)) (other ∷ merge_row row merge others) (joined row other ∷ merge others)
    (λ _. ap (λ z. r +ℤ z) (is (other ∷ others)) ∙ plus-assoc r rest (o +ℤ s))
    (λ _ _. ap (λ z. o +ℤ z) (sum_at-merge_row op field row merge rest is others) ∙ plus-third o r rest s)
    (λ first second.
    let same = is_at-key op field row other (HasKeyOf-neither row other first second) in
    (λ i. part-joined (is_at op field row) (is_at op field other) row.sum other.sum same i +ℤ is others i) ∙ plus-join r o rest s)

-- a merged list has the sums of both
pub sum_at-merge_rows : (op field : ℕ) (rows others : List TraceRow) → sum_at op field (merge_rows rows others) ≡ sum_at op field rows +ℤ sum_at op field others
sum_at-merge_rows op field [] others = sym (plus-zero (sum_at op field others))
sum_at-merge_rows op field (row ∷ rows) others =
    sum_at-merge_row op field row (merge_rows rows) (sum_at op field rows) (λ more. sum_at-merge_rows op field rows more) others

pub sum_at-append : (op field : ℕ) (rows others : List TraceRow) → sum_at op field (rows ++ others) ≡ sum_at op field rows +ℤ sum_at op field others
sum_at-append op field [] others = sym (plus-zero (sum_at op field others))
sum_at-append op field (row ∷ rows) others =
    let r = part (is_at op field row) row.sum in
    ap (λ z. r +ℤ z) (sum_at-append op field rows others) ∙ plus-assoc r (sum_at op field rows) (sum_at op field others)

-- ---- what holds of each row

-- what a row of a merged list inherits from those of both
pub record Inherits (P Q R : TraceRow → Type 0) : Type 0 where
  pub first : (row : TraceRow) → P row → R row
  pub second : (row : TraceRow) → Q row → R row
  pub both : (row other : TraceRow) → P row → Q other → R (joined row other)

All-merge_row : (P Q R : TraceRow → Type 0) → Inherits P Q R → (row : TraceRow) (merge : List TraceRow → List TraceRow) → P row → ((others : List TraceRow) → All Q others → All R (merge others)) → (others : List TraceRow) → All Q others → All R (merge_row row merge others)
All-merge_row P Q R inherits row merge at_row is [] all = All-cons R row (merge []) (inherits.first row at_row) (is [] all)
All-merge_row P Q R inherits row merge at_row is (other ∷ others) all =
    let at_other = All-head Q other others all in
    let at_others = All-tail Q other others all in
    pick (λ rows. All R rows) (is_before row other) (is_before other row) (row ∷ merge (other ∷ others)) (other ∷ merge_row row merge others) (joined row other ∷ merge others)
    (λ _. All-cons R row (merge (other ∷ others)) (inherits.first row at_row) (is (other ∷ others) all))
    (λ _ _. All-cons R other (merge_row row merge others) (inherits.second other at_other) (All-merge_row P Q R inherits row merge at_row is others at_others))
    (λ _ _. All-cons R (joined row other) (merge others) (inherits.both row other at_row at_other) (is others at_others))

pub All-merge_rows : (P Q R : TraceRow → Type 0) → Inherits P Q R → (rows others : List TraceRow) → All P rows → All Q others → All R (merge_rows rows others)
All-merge_rows P Q R inherits [] others first second = All-weaker Q R inherits.second others second
All-merge_rows P Q R inherits (row ∷ rows) others first second =
    All-merge_row P Q R inherits row (merge_rows rows) (All-head P row rows first) (λ more all. All-merge_rows P Q R inherits rows more (All-tail P row rows first) all) others second

-- ---- order

-- rows behind one
abbrev IsBehind : TraceRow → TraceRow → Type 0
IsBehind row later = is_before row later ≡ true

IsBehind-inherits : (row : TraceRow) → Inherits (IsBehind row) (IsBehind row) (IsBehind row)
IsBehind-inherits row = record { first = λ _ is. is; second = λ _ is. is; both = λ _ _ is _. is }

behind : (row : TraceRow) (rows others : List TraceRow) → All (IsBehind row) rows → All (IsBehind row) others → All (IsBehind row) (merge_rows rows others)
behind row rows others first second = All-merge_rows (IsBehind row) (IsBehind row) (IsBehind row) (IsBehind-inherits row) rows others first second

further : (row other : TraceRow) (rows : List TraceRow) → is_before row other ≡ true → All (IsBehind other) rows → All (IsBehind row) rows
further row other rows first all = All-weaker (IsBehind other) (IsBehind row) (λ later is. is_before-trans row other later first is) rows all

IsAscending-merge_row : (row : TraceRow) (rows : List TraceRow) → All (IsBehind row) rows → ((others : List TraceRow) → IsAscending others → IsAscending (merge_rows rows others)) → (others : List TraceRow) → IsAscending others → IsAscending (merge_rows (row ∷ rows) others)
IsAscending-merge_row row rows all is [] sorted = (behind row rows [] all (λ k d below. absurd (omega arith)), is [] sorted)
IsAscending-merge_row row rows all is (other ∷ others) sorted =
    pick (λ merged. IsAscending merged) (is_before row other) (is_before other row) (row ∷ merge_rows rows (other ∷ others)) (other ∷ merge_rows (row ∷ rows) others) (joined row other ∷ merge_rows rows others)
    (λ first. (
      behind row rows (other ∷ others) all (All-cons (IsBehind row) other others first (further row other others first sorted.0)),
      is (other ∷ others) sorted,
    ))
    (λ _ second. (
      behind other (row ∷ rows) others (All-cons (IsBehind other) row rows second (further other row rows second all)) sorted.0,
      IsAscending-merge_row row rows all is others sorted.1,
    ))
    (λ first second. (
      behind row rows others all (All-weaker (IsBehind other) (IsBehind row) (λ later at. is_before-key row other later (HasKeyOf-neither row other first second) at) others sorted.0),
      is others sorted.1,
    ))

-- lists in order are merged in order
pub IsAscending-merge_rows : (rows others : List TraceRow) → IsAscending rows → IsAscending others → IsAscending (merge_rows rows others)
IsAscending-merge_rows [] others first second = second
IsAscending-merge_rows (row ∷ rows) others first second =
    IsAscending-merge_row row rows first.0 (λ more sorted. IsAscending-merge_rows rows more first.1 sorted) others second

-- ---- the whole

pub IsSummed-merge_rows : (given more rows others : List TraceRow) → IsSummed given rows → IsSummed more others → IsSummed (given ++ more) (merge_rows rows others)
IsSummed-merge_rows given more rows others first second = record {
  ascending = IsAscending-merge_rows rows others first.ascending second.ascending;
  keys = λ op field. has_row-merge_rows op field rows others ∙ (λ i. first.keys op field i || second.keys op field i) ∙ sym (list_any-append (is_at op field) given more);
  sums = λ op field. sum_at-merge_rows op field rows others ∙ (λ i. first.sums op field i +ℤ second.sums op field i) ∙ sym (sum_at-append op field given more);
}

pub IsSummed-itself : (rows : List TraceRow) → IsAscending rows → IsSummed rows rows
IsSummed-itself rows sorted = record { ascending = sorted; keys = λ op field. refl; sums = λ op field. refl }

-- sums stay within so many small ones
pub IsWithin-inherits : (m n : ℕ) → Inherits (IsWithin m) (IsWithin n) (IsWithin (m + n))
IsWithin-inherits m n = record {
  first = λ row is. omega (arith, is);
  second = λ row is. omega (arith, is);
  both = λ row other is at. omega (arith, ints, is, at);
}

-- nothing is behind the one list or the other
pub merge_rows-none : (rows : List TraceRow) → merge_rows rows [] ≡ rows
merge_rows-none [] = refl
merge_rows-none (row ∷ rows) = ap (λ more. row ∷ more) (merge_rows-none rows)

-- one list has ended, and what is left of the other stands behind what is merged
pub merge_rows-end : (left right rows all one two : List TraceRow) (i j : ℕ) → (length left ≤ i) ⊎ (length right ≤ j) → rows ++ merge_rows (drop i left) (drop j right) ≡ all → one ≡ rows ++ drop i left → two ≡ one ++ drop j right → two ≡ all
merge_rows-end left right rows all one two i j over is first second = elim over [
  | inl no_left ↦
      let none = drop_all i left no_left in
      second
      ∙ ap (λ xs. xs ++ drop j right) (first ∙ ap (λ xs. rows ++ xs) none ∙ append-nil rows)
      ∙ sym (ap (λ xs. rows ++ merge_rows xs (drop j right)) none)
      ∙ is
  | inr no_right ↦
      let none = drop_all j right no_right in
      second
      ∙ ap (λ xs. one ++ xs) none
      ∙ append-nil one
      ∙ first
      ∙ sym (ap (λ xs. rows ++ xs) (merge_rows-none (drop i left)))
      ∙ sym (ap (λ xs. rows ++ merge_rows (drop i left) xs) none)
      ∙ is
]

-- a row with another sum is like the same rows
AgreesWith-joined : (given : List TraceRow) (row other : TraceRow) → AgreesWith given row → AgreesWith given (joined row other)
AgreesWith-joined given row other all = λ k d below is.
    let like = all k d below is in
    record { op = like.op; component = like.component; phase = like.phase; field = like.field; stamp = like.stamp }

pub AgreesWith-inherits : (given : List TraceRow) → Inherits (AgreesWith given) (AgreesWith given) (AgreesWith given)
AgreesWith-inherits given = record {
  first = λ _ is. is;
  second = λ _ is. is;
  both = λ row other is _. AgreesWith-joined given row other is;
}

-- the rows of logs that are cut in two
pub rows_of-cut : (logs front back : List Log) (k : ℕ) → front ≡ take k logs → back ≡ drop k logs → rows_of logs ≡ rows_of front ++ rows_of back
rows_of-cut logs front back k first second =
    sym (ap rows_of (take-append-drop k logs))
    ∙ flat_map-append (λ (log : Log). log.rows) (take k logs) (drop k logs)
    ∙ (λ i. rows_of (sym first i) ++ rows_of (sym second i))

-- and of one log
pub rows_of-one : (logs : List Log) (log d : Log) → length logs ≤ 1 → 0 < length logs → log ≡ get_or logs 0 d → rows_of logs ≡ log.rows
rows_of-one [] log d few some is = absurd (omega arith)
rows_of-one (first ∷ []) log d few some is = append-nil first.rows ∙ ap (λ (l : Log). l.rows) (sym is)
rows_of-one (first ∷ second ∷ logs) log d few some is = absurd (omega arith)

-- what holds of all rows of two lists
All-left : (P : TraceRow → Type 0) (xs ys : List TraceRow) → All P (xs ++ ys) → All P xs
All-left P [] ys all = λ k d below. absurd (omega arith)
All-left P (x ∷ xs) ys all = All-cons P x xs (All-head P x (xs ++ ys) all) (All-left P xs ys (All-tail P x (xs ++ ys) all))

All-right : (P : TraceRow → Type 0) (xs ys : List TraceRow) → All P (xs ++ ys) → All P ys
All-right P [] ys all = all
All-right P (x ∷ xs) ys all = All-right P xs ys (All-tail P x (xs ++ ys) all)

-- logs that are cut in two, and what either half is merged to
pub record IsCut (logs front back : List Log) (left right rows : List TraceRow) : Type 0 where
  pub given : rows_of logs ≡ rows_of front ++ rows_of back
  pub merged : rows ≡ merge_rows left right
  pub count : length front + length back ≡ length logs

pub IsSummed-cut : (logs front back : List Log) (left right rows : List TraceRow) → IsCut logs front back left right rows → IsSummed (rows_of front) left → IsSummed (rows_of back) right → IsSummed (rows_of logs) rows
IsSummed-cut logs front back left right rows cut first second =
    let P : List TraceRow → Type 0 = λ given. IsSummed given rows in
    let Q : List TraceRow → Type 0 = λ merged. IsSummed (rows_of front ++ rows_of back) merged in
    subst P (sym cut.given) (subst Q (sym cut.merged) (IsSummed-merge_rows (rows_of front) (rows_of back) left right first second))

pub AgreesWith-cut : (logs front back : List Log) (left right rows given : List TraceRow) → IsCut logs front back left right rows → All (AgreesWith given) (rows_of logs) → (All (AgreesWith given) (rows_of front) → All (AgreesWith given) left) → (All (AgreesWith given) (rows_of back) → All (AgreesWith given) right) → All (AgreesWith given) rows
AgreesWith-cut logs front back left right rows given cut all first second =
    let P = AgreesWith given in
    let both = All-same P (rows_of front ++ rows_of back) (rows_of logs) (sym cut.given) all in
    let at_left = first (All-left P (rows_of front) (rows_of back) both) in
    let at_right = second (All-right P (rows_of front) (rows_of back) both) in
    All-same P rows (merge_rows left right) cut.merged (All-merge_rows P P P (AgreesWith-inherits given) left right at_left at_right)

pub IsWithin-cut : (logs front back : List Log) (left right rows : List TraceRow) → IsCut logs front back left right rows → All (IsWithin (length front)) left → All (IsWithin (length back)) right → All (IsWithin (length logs)) rows
IsWithin-cut logs front back left right rows cut first second =
    let m = length front in
    let n = length back in
    let all = All-same (IsWithin (m + n)) rows (merge_rows left right) cut.merged (All-merge_rows (IsWithin m) (IsWithin n) (IsWithin (m + n)) (IsWithin-inherits m n) left right first second) in
    let count = cut.count in
    All-weaker (IsWithin (m + n)) (IsWithin (length logs)) (λ row is. omega (arith, is, count)) rows all
