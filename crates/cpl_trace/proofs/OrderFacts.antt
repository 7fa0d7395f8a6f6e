-- The order of rows.
use Rattle.std.proofs.Common.{◌≡◌, ℕ, Bool, true, false, ◌&&◌, ◌||◌, sym, ◌∙◌, arith}
use Rattle.std.specs.Prelude.{◌==◌, nat_lt}
use Rattle.std.proofs.lemmas.Bool.Decides.{nat_tests}
use Rattle.cpl_trace.specs.Rows.{is_at, is_before}
use Rattle.cpl_trace.specs.declared.row.TraceRow.{TraceRow}

-- two pairs of numbers in their order
abbrev pair_before : ℕ → ℕ → ℕ → ℕ → Bool
pair_before a b c d = nat_lt a c || ((a == c) && nat_lt b d)

pair-trans : (a b c d e f : ℕ) → pair_before a b c d ≡ true → pair_before c d e f ≡ true → pair_before a b e f ≡ true
pair-trans a b c d e f first second = grind (arith, nat_tests)

pair-same : (a b c d : ℕ) → pair_before a b c d ≡ false → pair_before c d a b ≡ false → (a ≡ c) × (b ≡ d)
pair-same a b c d first second = (grind (arith, nat_tests), grind (arith, nat_tests))

pair-other : (a b c d : ℕ) → pair_before a b c d ≡ true → ((c == a) && (d == b)) ≡ false
pair-other a b c d first = grind (arith, nat_tests)

pair-itself : (a b : ℕ) → ((a == a) && (b == b)) ≡ true
pair-itself a b = grind (arith, nat_tests)

pair-is : (a b c d : ℕ) → ((c == a) && (d == b)) ≡ true → (c ≡ a) × (d ≡ b)
pair-is a b c d first = (grind (arith, nat_tests), grind (arith, nat_tests))

-- rows between which no other order is
pub is_before-trans : (a b c : TraceRow) → is_before a b ≡ true → is_before b c ≡ true → is_before a c ≡ true
is_before-trans a b c first second = pair-trans a.op a.field b.op b.field c.op c.field first second

-- rows of one operation and one field
pub record HasKeyOf (a b : TraceRow) : Type 0 where
  pub op : a.op ≡ b.op
  pub field : a.field ≡ b.field

pub HasKeyOf-neither : (a b : TraceRow) → is_before a b ≡ false → is_before b a ≡ false → HasKeyOf a b
HasKeyOf-neither a b first second =
    let same = pair-same a.op a.field b.op b.field first second in
    record { op = same.0; field = same.1 }

-- the key of a row at an operation and a field
pub key-of : (op field : ℕ) (a : TraceRow) → is_at op field a ≡ true → (op ≡ a.op) × (field ≡ a.field)
key-of op field a is = let same = pair-is op field a.op a.field is in (sym same.0, sym same.1)

-- they are before the same rows
pub is_before-key : (a b c : TraceRow) → HasKeyOf a b → is_before b c ≡ true → is_before a c ≡ true
is_before-key a b c same first = (λ i. pair_before (same.op i) (same.field i) c.op c.field) ∙ first

-- and are of the same operation and field
pub is_at-key : (op field : ℕ) (a b : TraceRow) → HasKeyOf a b → is_at op field a ≡ is_at op field b
is_at-key op field a b same = λ i. (same.op i == op) && (same.field i == field)

-- a row is of its own operation and field, and no row behind it is
pub is_at-itself : (a : TraceRow) → is_at a.op a.field a ≡ true
is_at-itself a = pair-itself a.op a.field

pub is_at-behind : (a b : TraceRow) → is_before a b ≡ true → is_at a.op a.field b ≡ false
is_at-behind a b first = pair-other a.op a.field b.op b.field first
