-- Columns in which no byte calls for quotes, and the line that a CSV writer makes of them.
use Rattle.std.proofs.Common.{◌≡◌, ℕ, ℤ, ◌+◌, ◌%◌, ◌^◌, ◌<◌, ◌≤◌, Bool, true, false, ◌&&◌, ◌||◌, cond, List, [], ◌∷◌, ◌++◌, length, refl, sym, ap, ◌∙◌, arith, decimal, append-nil, append_assoc, get_or, take, Some, None, unsigned_abs}
use Rattle.std.specs.Int.{is_negative}
use Rattle.std.specs.Bool.{IsTrue}
use Rattle.std.specs.List.{All, flat_map, join_with_byte, list_all, list_any}
use Rattle.std.proofs.lemmas.Bool.{and_parts, false≢true}
use Rattle.std.proofs.lemmas.Bool.Decides.{nat_tests}
use Rattle.std.proofs.lemmas.Fmt.{decimal_by_steps_wide}
use Rattle.std.proofs.lemmas.Grind.{flat_map-append}
use Rattle.std.proofs.lemmas.List.{take_more}
use Rattle.std.proofs.lemmas.List.Elements.{All-cons, All-get_or, All-head, All-nil, All-tail}
use Rattle.std.proofs.lemmas.List.Folds.{list_any-append}
use Rattle.cpl_base.specs.Numerals.{Numeral, Writes, are_digits, are_places, fraction, sign, value_text}
use Rattle.cpl_base.specs.Words.{is_digit, is_letter, is_name, is_name_byte}
use Rattle.cpl_trace.specs.Lines.{AreNames, IsPlaced, columns_of, integer_text, line_of, name_at, names_at}
use Rattle.cpl_trace.specs.declared.names.TraceNames.{TraceNames}
use Rattle.cpl_trace.specs.declared.row.TraceRow.{TraceRow}
use Rattle.cpl_trace.specs.Writers.{ArePlain}
use Rattle.csv.specs.Writing.{default_writer, field_text, fields_text, is_blank, needs_byte, quoted, row_text}

-- no byte calls for quotes
abbrev pub IsPlain : List ℕ → Type 0
IsPlain column = list_any (needs_byte default_writer) column ≡ false

-- from the minus on no byte does
plain-byte : (b : ℕ) → 45 ≤ b → needs_byte default_writer b ≡ false
plain-byte b from = grind (arith, nat_tests)

digit-from : (b : ℕ) → is_digit b ≡ true → 45 ≤ b
digit-from b is = grind (arith, nat_tests)

name_byte-from : (b : ℕ) → is_name_byte b ≡ true → 45 ≤ b
name_byte-from b is = grind (arith, nat_tests)

letter-from : (b : ℕ) → is_letter b ≡ true → 45 ≤ b
letter-from b is = grind (arith, nat_tests)

or-none : (a b : Bool) → a ≡ false → b ≡ false → (a || b) ≡ false
or-none a b first second = λ i. (first ∙ refl) i || second i

-- a byte and those behind it
IsPlain-cons : (b : ℕ) (bytes : List ℕ) → 45 ≤ b → IsPlain bytes → IsPlain (b ∷ bytes)
IsPlain-cons b bytes from plain = or-none (needs_byte default_writer b) (list_any (needs_byte default_writer) bytes) (plain-byte b from) plain ∙ refl

IsPlain-append : (first second : List ℕ) → IsPlain first → IsPlain second → IsPlain (first ++ second)
IsPlain-append first second at_first at_second =
    list_any-append (needs_byte default_writer) first second
    ∙ or-none (list_any (needs_byte default_writer) first) (list_any (needs_byte default_writer) second) at_first at_second

-- bytes of which each is from the minus on
IsPlain-all : (p : ℕ → Bool) → ((b : ℕ) → p b ≡ true → 45 ≤ b) → (bytes : List ℕ) → list_all p bytes ≡ true → IsPlain bytes
IsPlain-all p from [] all = refl
IsPlain-all p from (b ∷ bytes) all =
    let parts = and_parts (p b) (list_all p bytes) all in
    IsPlain-cons b bytes (from b parts.0) (IsPlain-all p from bytes parts.1)

-- names
pub IsPlain-name : (name : List ℕ) → is_name name ≡ true → IsPlain name
IsPlain-name [] is = absurd (false≢true is)
IsPlain-name (c ∷ cs) is =
    let outer = and_parts (is_letter c && list_all is_name_byte cs) _ is in
    let inner = and_parts (is_letter c) (list_all is_name_byte cs) outer.0 in
    IsPlain-cons c cs (letter-from c inner.0) (IsPlain-all is_name_byte name_byte-from cs inner.1)

-- numbers
pub IsPlain-decimal : (n : ℕ) → n < 10 ^ 64 → IsPlain (decimal n)
IsPlain-decimal n few = decimal_by_steps_wide (λ _ ds. IsPlain ds) (λ d small. IsPlain-cons (48 + d) [] (omega arith) refl) (λ m ds ten plain. IsPlain-append ds ((48 + m % 10) ∷ []) plain (IsPlain-cons (48 + m % 10) [] (omega arith) refl)) n few

IsPlain-sign : (minus : Bool) → IsPlain (sign minus)
IsPlain-sign true = IsPlain-cons 45 [] (omega arith) refl
IsPlain-sign false = refl

pub IsPlain-integer : (z : ℤ) → unsigned_abs z < 10 ^ 64 → IsPlain (integer_text z)
IsPlain-integer z few = IsPlain-append (sign (is_negative z)) (decimal (unsigned_abs z)) (IsPlain-sign (is_negative z)) (IsPlain-decimal (unsigned_abs z) few)

IsPlain-digits : (digits : List ℕ) → are_digits digits ≡ true → IsPlain digits
IsPlain-digits [] are = refl
IsPlain-digits (c ∷ cs) are = IsPlain-all is_digit digit-from (c ∷ cs) are

-- numerals
pub IsPlain-numeral : (text : List ℕ) → Numeral text → IsPlain text
IsPlain-numeral text n =
    let head = IsPlain-append (sign n.minus) n.units (IsPlain-sign n.minus) (IsPlain-digits n.units n.unit_digits) in
    ap (λ t. list_any (needs_byte default_writer) t) n.spelled
    ∙ IsPlain-append (sign n.minus ++ n.units) (fraction n.places) head (elim n.places as (λ places. are_places places ≡ true → IsPlain (fraction places)) [
      | None ↦ λ _. refl
      | Some places ↦ λ are. IsPlain-cons 46 places (omega arith) (IsPlain-digits places are)
    ] n.place_digits_are)

-- a plain column is written as it is
field_text-plain : (column : List ℕ) → IsPlain column → field_text default_writer column ≡ column
field_text-plain column plain = ap (λ b. cond b (quoted default_writer column) column) plain

fields_text-plain : (first : List ℕ) (columns : List (List ℕ)) → All IsPlain columns → first ++ fields_text default_writer columns ≡ join_with_byte 44 (first ∷ columns)
unfolding fields_text
fields_text-plain first [] all = append-nil first
fields_text-plain first (column ∷ columns) all =
    let rest = fields_text-plain column columns (All-tail IsPlain column columns all) in
    let own = field_text-plain column (All-head IsPlain column columns all) in
    ap (λ t. first ++ (44 ∷ t)) (ap (λ t. t ++ fields_text default_writer columns) own ∙ rest)

-- a line of plain columns
pub row_text-plain : (columns : List (List ℕ)) → ArePlain columns → row_text default_writer columns ≡ line_of columns
unfolding is_blank line_of
row_text-plain [] are = absurd (omega (arith, are.some))
row_text-plain (column ∷ []) are = absurd (omega (arith, are.some))
row_text-plain (column ∷ next ∷ columns) are =
    let own = field_text-plain column (All-head IsPlain column (next ∷ columns) are.plain) in
    let rest = fields_text-plain column (next ∷ columns) (All-tail IsPlain column (next ∷ columns) are.plain) in
    ap (λ t. t ++ 10 ∷ []) (ap (λ t. t ++ fields_text default_writer (next ∷ columns)) own ∙ rest)

-- one line more
pub text-more : (head : List ℕ) (line : TraceRow → List ℕ) (rows : List TraceRow) (i : ℕ) (d : TraceRow) (old new : List ℕ) → i < length rows → old ≡ head ++ flat_map line (take i rows) → new ≡ old ++ line (get_or rows i d) → new ≡ head ++ flat_map line (take (i + 1) rows)
text-more head line rows i d old new within is more =
    more
    ∙ ap (λ t. t ++ line (get_or rows i d)) is
    ∙ append_assoc head (flat_map line (take i rows)) (line (get_or rows i d))
    ∙ ap (λ t. head ++ (flat_map line (take i rows) ++ t)) (sym (append-nil (line (get_or rows i d))))
    ∙ ap (λ t. head ++ t) (sym (flat_map-append line (take i rows) (get_or rows i d ∷ [])))
    ∙ ap (λ xs. head ++ flat_map line xs) (sym (take_more rows i d within))

-- a column that is plain text
IsPlain-same : (column text : List ℕ) → column ≡ text → IsPlain text → IsPlain column
IsPlain-same column text is plain = ap (list_any (needs_byte default_writer)) is ∙ plain

name_at-plain : (names : List (List ℕ)) (place : ℕ) → place < length names → All (λ name. IsTrue (is_name name)) names → IsPlain (name_at names place)
name_at-plain names place within all = IsPlain-name (name_at names place) (All-get_or (λ name. IsTrue (is_name name)) names place [] within all)

names_at-names : (names : List (List (List ℕ))) (component : ℕ) → component < length names → All (All (λ name. IsTrue (is_name name))) names → All (λ name. IsTrue (is_name name)) (names_at names component)
names_at-names names component within all = All-get_or (All (λ name. IsTrue (is_name name))) names component [] within all

-- what the columns of a row are written from
pub record HasColumns (names : TraceNames) (row : TraceRow) (op component phase field stamp sum : List ℕ) : Type 0 where
  pub op_is : op ≡ decimal row.op
  pub component_is : component ≡ name_at names.components row.component
  pub phase_is : phase ≡ name_at (names_at names.phases row.component) row.phase
  pub field_is : field ≡ name_at (names_at names.fields row.component) row.field
  pub stamp_is : stamp ≡ integer_text row.stamp
  pub sum_is : sum ≡ value_text row.sum
  pub few : row.op < 10 ^ 64
  pub size : unsigned_abs row.stamp < 10 ^ 64
  pub writes : Writes (value_text row.sum) row.sum

pub ArePlain-columns : (names : TraceNames) (row : TraceRow) (op component phase field stamp sum : List ℕ) → AreNames names → IsPlaced names row → HasColumns names row op component phase field stamp sum → ArePlain (op ∷ component ∷ phase ∷ field ∷ stamp ∷ sum ∷ [])
ArePlain-columns names row op component phase field stamp sum are placed has = record {
  some = omega arith;
  plain = All-cons IsPlain op (component ∷ phase ∷ field ∷ stamp ∷ sum ∷ []) (IsPlain-same op _ has.op_is (IsPlain-decimal row.op has.few))
      (All-cons IsPlain component (phase ∷ field ∷ stamp ∷ sum ∷ []) (IsPlain-same component _ has.component_is (name_at-plain names.components row.component placed.component are.components))
      (All-cons IsPlain phase (field ∷ stamp ∷ sum ∷ []) (IsPlain-same phase _ has.phase_is (name_at-plain (names_at names.phases row.component) row.phase placed.phase (names_at-names names.phases row.component placed.phases are.phases)))
      (All-cons IsPlain field (stamp ∷ sum ∷ []) (IsPlain-same field _ has.field_is (name_at-plain (names_at names.fields row.component) row.field placed.field (names_at-names names.fields row.component placed.fields are.fields)))
      (All-cons IsPlain stamp (sum ∷ []) (IsPlain-same stamp _ has.stamp_is (IsPlain-integer row.stamp has.size))
      (All-cons IsPlain sum [] (IsPlain-same sum _ has.sum_is (IsPlain-numeral (value_text row.sum) has.writes.numeral))
      (All-nil IsPlain))))));
}

pub columns_of-columns : (names : TraceNames) (row : TraceRow) (op component phase field stamp sum : List ℕ) → HasColumns names row op component phase field stamp sum → op ∷ component ∷ phase ∷ field ∷ stamp ∷ sum ∷ [] ≡ columns_of names row
unfolding columns_of
columns_of-columns names row op component phase field stamp sum has =
    λ i. has.op_is i ∷ has.component_is i ∷ has.phase_is i ∷ has.field_is i ∷ has.stamp_is i ∷ has.sum_is i ∷ []
