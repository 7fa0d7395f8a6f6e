-- What formulas read, and each read once.
use Rattle.std.specs.Prelude.{◌≡◌, ◌≢◌, ℕ, ℤ, pos, unsigned_abs, ◌<◌, ◌≤◌, Bool, true, false, ◌&&◌, nat_eq, if◌then◌else◌, List, [], ◌∷◌, ◌++◌, fold}
use Rattle.std.specs.List.{All, AllPairs, list_any}
use Rattle.std.specs.Ordering.{int_eq}
use Rattle.cpl_formula.specs.declared.formula.Read.{Read}
use Rattle.cpl_formula.specs.declared.formula.ReadName.{ReadName}
use Rattle.cpl_formula.specs.declared.formula.ReadName.TheVariants.{Field, I, J, S, Nx, Ny, Year, Month, Day, Hour, Minute, Second, Days, DaySecond, Dt, Ring}

-- what a name stands for, at a neighbour's cell
abbrev pub read_at : ReadName → ℤ → ℤ → Read
read_at name dx dy = record { name = name; dx = dx; dy = dy }

-- whether two names are the same
abbrev pub same_name : ReadName → ReadName → Bool
same_name (Field k) (Field l) = nat_eq k l
same_name I I = true
same_name J J = true
same_name S S = true
same_name Nx Nx = true
same_name Ny Ny = true
same_name Year Year = true
same_name Month Month = true
same_name Day Day = true
same_name Hour Hour = true
same_name Minute Minute = true
same_name Second Second = true
same_name Days Days = true
same_name DaySecond DaySecond = true
same_name Dt Dt = true
same_name (Ring k) (Ring l) = nat_eq k l
same_name a b = false

-- whether two reads are the same
abbrev pub same_read : Read → Read → Bool
same_read a b = same_name a.name b.name && (int_eq a.dx b.dx && int_eq a.dy b.dy)

-- a read behind those that stand already, if it doesn't stand among them
abbrev pub with_read : List Read → Read → List Read
with_read reads r = if list_any (same_read r) reads then reads else reads ++ r ∷ []

-- each read once, where it first stands
abbrev pub distinct_reads : List Read → List Read
distinct_reads reads = fold with_read [] reads

-- ---- among the names given

-- whether a name is a field's
abbrev pub is_field : ReadName → Bool
is_field (Field k) = true
is_field name = false

-- A read among so many fields and alarms: its place is below their number, its neighbour at most two columns and
-- two rows away; what is no field's is read at the cell itself.
pub record IsRead (fields alarms : ℕ) (read : Read) : Type 0 where
  pub field : (k : ℕ) → read.name ≡ Field k → k < fields
  pub alarm : (k : ℕ) → read.name ≡ Ring k → k < alarms
  pub columns : unsigned_abs read.dx ≤ 2
  pub rows : unsigned_abs read.dy ≤ 2
  pub here : is_field read.name ≡ false → (read.dx ≡ pos 0) × (read.dy ≡ pos 0)

-- Reads among so many fields and alarms, none of which stands twice.
pub record AreReads (fields alarms : ℕ) (reads : List Read) : Type 0 where
  pub among : All (IsRead fields alarms) reads
  pub distinct : AllPairs (λ a b. a ≢ b) reads
