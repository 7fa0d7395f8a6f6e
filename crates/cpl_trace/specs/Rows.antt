-- Rows of a trace: where they stand, in which order, and what they sum up to.
use Rattle.std.specs.Prelude.{◌≡◌, ℕ, ℤ, pos, ◌+ℤ◌, ◌^◌, ◌<◌, Bool, ◌&&◌, ◌||◌, ◌==◌, nat_lt, if◌then◌else◌, List, [], ◌∷◌, All, IsTrue, unsigned_abs}
use Rattle.std.specs.List.{list_any}
use Rattle.cpl_trace.specs.declared.row.TraceRow.{TraceRow}

-- a row is of this operation and this field
abbrev pub is_at : ℕ → ℕ → TraceRow → Bool
is_at op field row = (row.op == op) && (row.field == field)

-- some row is
abbrev pub has_row : ℕ → ℕ → List TraceRow → Bool
has_row op field rows = list_any (is_at op field) rows

-- the sum of all rows that are
abbrev pub sum_at : ℕ → ℕ → List TraceRow → ℤ
sum_at op field [] = pos 0
sum_at op field (row ∷ rows) = (if is_at op field row then row.sum else pos 0) +ℤ sum_at op field rows

-- a row stands before another: by its operation, then by its field
abbrev pub is_before : TraceRow → TraceRow → Bool
is_before row other = nat_lt row.op other.op || ((row.op == other.op) && nat_lt row.field other.field)

-- each row stands before all behind it
abbrev pub IsAscending : List TraceRow → Type 0
IsAscending [] = Unit {0}
IsAscending (row ∷ rows) = All (λ later. IsTrue (is_before row later)) rows × IsAscending rows

-- two rows are equal but for their sums
pub record IsLike (row other : TraceRow) : Type 0 where
  pub op : row.op ≡ other.op
  pub component : row.component ≡ other.component
  pub phase : row.phase ≡ other.phase
  pub field : row.field ≡ other.field
  pub stamp : row.stamp ≡ other.stamp

-- a row is like each of these that is of its operation and its field
abbrev pub AgreesWith : List TraceRow → TraceRow → Type 0
AgreesWith rows row = All (λ other. IsTrue (is_at row.op row.field other) → IsLike row other) rows

-- a sum that logs may hold
abbrev pub IsSmall : TraceRow → Type 0
IsSmall row = unsigned_abs row.sum < 2 ^ 100
