-- The code's own: factors as they are kept while a file is read, what the reader has still to give, and how rows are kept.
use Rattle.std.specs.Prelude.{◌≡◌, ℕ, ◌+◌, ◌-◌, ◌*◌, ◌<◌, ◌≤◌, nat_le, nat_lt, ◌&&◌, filter, suc, Bool, ◌==◌, if◌then◌else◌, min, List, [], ◌∷◌, All, map, length, take, drop, slice_index, slice_index_or, Option, Some, None, Result, Ok, Err, true, false}
use Rattle.std.specs.Borrow.{Bor}
use Rattle.std.specs.List.{range_with_len}
use Rattle.csv.specs.Reading.{Ready, default_config, reader_config, reader_state, reader_trim, records_from, source_of}
use Rattle.csv.specs.declared.parser.State.{State}
use Rattle.csv.specs.declared.reader.Reader.{Reader}
use Rattle.csv.specs.declared.reader.Trim.TheVariants as trim
use Rattle.cpl_smm.specs.Files.{records_of}
use Rattle.cpl_smm.specs.Records.{Factor, IsWeight, most_records, record_factor}
use Rattle.cpl_smm.specs.Rows.{Entry, IsRow, Table}
use Rattle.cpl_smm.specs.declared.entries.KeptFactor.{KeptFactor}
use Rattle.cpl_smm.specs.declared.fault.WeightFault.{WeightFault}
use Rattle.cpl_smm.specs.declared.weights.Weights.TheInside.{Inside}

-- a destination cell and a source cell as one number, by which factors are sorted
abbrev pub pair_number : ℕ → ℕ → ℕ
pair_number dst src = dst * 4294967296 + src

-- that number of a factor
abbrev pub pair_of : KeptFactor → ℕ
pair_of factor = pair_number factor.dst factor.src

-- a factor with the number of its record
abbrev pub kept_factor : ℕ → Factor → KeptFactor
kept_factor n factor = record { dst = factor.dst; src = factor.src; weight = factor.weight; number = n }

-- the same of what a record says
abbrev pub kept_answer : ℕ → Result Factor WeightFault → Result KeptFactor WeightFault
kept_answer n (Ok factor) = Ok (kept_factor n factor)
kept_answer n (Err fault) = Err fault

-- factors of records that follow one another from this number on
abbrev pub kept_from : ℕ → List Factor → List KeptFactor
kept_from n [] = []
kept_from n (factor ∷ factors) = kept_factor n factor ∷ kept_from (n + 1) factors

-- factors whose destination cells stand in one list and their source cells and weights in another, of records that follow one another from this number on
abbrev pub numbered : ℕ → List ℕ → List Entry → List KeptFactor
numbered n [] entries = []
numbered n (dst ∷ dsts) [] = []
numbered n (dst ∷ dsts) (entry ∷ entries) =
    record { dst = dst; src = entry.0; weight = entry.1; number = n } ∷ numbered (n + 1) dsts entries

-- the numbers of pairs ascend, from above this one
abbrev pub ascend_from : ℕ → List ℕ → List Entry → Bool
ascend_from low [] entries = true
ascend_from low (dst ∷ dsts) [] = true
ascend_from low (dst ∷ dsts) (entry ∷ entries) =
    nat_lt low (pair_number dst entry.0) && ascend_from (pair_number dst entry.0) dsts entries

-- ---- reading

-- The factors of records up to the first that is faulty by itself, and its fault.
pub record Judged : Type 0 where
  pub factors : List Factor
  pub fault : Option WeightFault

-- a factor in front of others; a fault ends them
abbrev pub judged_step : Result Factor WeightFault → Judged → Judged
judged_step (Ok factor) more = record { factors = factor ∷ more.factors; fault = more.fault }
judged_step (Err fault) more = record { factors = []; fault = Some fault }

-- the factors of records that follow one another from this number on
abbrev pub judged_from : ℕ → ℕ → ℕ → List (List (List ℕ)) → Judged
judged_from src_cells dst_cells n [] = record { factors = []; fault = None }
judged_from src_cells dst_cells n (fields ∷ more) = judged_step (record_factor src_cells dst_cells n fields) (judged_from src_cells dst_cells (n + 1) more)

-- the factors of a text
abbrev pub judged_of : ℕ → ℕ → List ℕ → Judged
judged_of src_cells dst_cells bytes = judged_from src_cells dst_cells 1 (records_of bytes)

-- the bytes that a reader has left
abbrev pub unread : Reader (Bor (List ℕ)) → Option (List ℕ)
unread reader = source_of (λ bytes. Some bytes.now) reader

-- the records of the bytes that are left
abbrev pub records_in : State → Option (List ℕ) → List (List (List ℕ))
records_in state None = []
records_in state (Some bytes) = records_from default_config (length bytes + 1) state bytes

-- the records that a reader has still to give
abbrev pub records_left : Reader (Bor (List ℕ)) → List (List (List ℕ))
records_left reader = records_in (reader_state reader) (unread reader)

-- The reader reads on: as it was set up, without a header, over known bytes.
pub record IsReading (reader : Reader (Bor (List ℕ))) : Type 0 where
  pub config : reader_config reader ≡ default_config
  pub trim : reader_trim reader ≡ trim.None
  pub ready : Ready reader
  pub bytes : List ℕ
  pub known : unread reader ≡ Some bytes

-- The reader gave the first of its records.
pub record GaveRecord (before after : Reader (Bor (List ℕ))) (fields : List (List ℕ)) : Type 0 where
  pub reading : IsReading after
  pub left : records_left before ≡ fields ∷ records_left after

-- The reader gave a record, or it has none left.
abbrev pub ReadsOn : Reader (Bor (List ℕ)) → Reader (Bor (List ℕ)) → List (List ℕ) → Bool → Type 0
ReadsOn before after fields true = GaveRecord before after fields
ReadsOn before after fields false = records_left before ≡ []

-- ---- repeats

-- the lesser of two numbers, of which each may be missing
abbrev pub lesser : Option ℕ → Option ℕ → Option ℕ
lesser None b = b
lesser (Some a) None = Some a
lesser (Some a) (Some b) = Some (min a b)

-- the number of a factor that has the cells of the one before it
abbrev pub repeat_number : ℕ → KeptFactor → Option ℕ
repeat_number before factor = if pair_of factor == before then Some factor.number else None

-- the least of a number and those of factors that have the cells of the one before them
abbrev pub least_behind : Option ℕ → ℕ → List KeptFactor → Option ℕ
least_behind least before [] = least
least_behind least before (factor ∷ factors) = least_behind (lesser least (repeat_number before factor)) (pair_of factor) factors

-- the least number of a factor that has the cells of the one before it
abbrev pub least_repeat : List KeptFactor → Option ℕ
least_repeat [] = None
least_repeat (factor ∷ factors) = least_behind None (pair_of factor) factors

-- ---- rows

-- the destination cell of a factor
abbrev pub dst_of : KeptFactor → ℕ
dst_of factor = factor.dst

-- the source cell of a factor
abbrev pub src_of : KeptFactor → ℕ
src_of factor = factor.src

-- the source cell and the weight of a factor
abbrev pub entry_of : KeptFactor → Entry
entry_of factor = (src_of factor, factor.weight)

-- the destination cell of a factor is this
abbrev pub is_dst : ℕ → KeptFactor → Bool
is_dst dst factor = dst_of factor == dst

-- how many of the first cells are at most this one
abbrev pub count_upto : ℕ → List ℕ → ℕ
count_upto dst [] = 0
count_upto dst (cell ∷ cells) = if nat_le cell dst then suc (count_upto dst cells) else 0

-- the numbers of pairs ascend, from above this one, and source cells are below 2^32
unfoldable pub Ascends : ℕ → List KeptFactor → Type 0
Ascends low [] = Unit {0}
Ascends low (factor ∷ factors) = (low < pair_of factor) × (factor.src < 4294967296) × Ascends (pair_of factor) factors

-- a factor's source cell is one of so many, and its weight is in range
pub record IsRanged (src_cells : ℕ) (factor : KeptFactor) : Type 0 where
  pub from_one : 1 ≤ src_of factor
  pub within : src_of factor ≤ src_cells
  pub weight : IsWeight factor.weight

-- Factors ascend by their cells, and are in range.
pub record AreSorted (src_cells : ℕ) (factors : List KeptFactor) : Type 0 where
  pub ascend : Ascends 0 factors
  pub ranged : All (IsRanged src_cells) factors
  pub few : length factors ≤ most_records

-- the row of a destination cell among sorted factors
abbrev pub row_in : List KeptFactor → ℕ → List Entry
row_in factors dst = map entry_of (filter (is_dst dst) factors)

-- sorted factors, row by row
abbrev pub sorted_table : ℕ → ℕ → List KeptFactor → Table
sorted_table src_cells dst_cells factors = record {
  src_cells = src_cells;
  records = length factors;
  rows = map (row_in factors) (range_with_len 1 dst_cells);
}

-- a fault, or a table
abbrev pub table_or : Option WeightFault → Table → Result Table WeightFault
table_or (Some fault) table = Err fault
table_or None table = Ok table

-- the entries from one start to the next
abbrev pub row_between : List ℕ → List Entry → ℕ → List Entry
row_between starts entries k = take (slice_index starts (k + 1) - slice_index starts k) (drop (slice_index starts k) entries)

-- all rows
abbrev pub rows_between : List ℕ → List Entry → ℕ → List (List Entry)
rows_between starts entries dst_cells = map (row_between starts entries) (range_with_len 0 dst_cells)

-- what is kept as a table
abbrev pub table_view : Inside → Table
table_view w = record {
  src_cells = w.src_cells;
  records = length w.entries.items;
  rows = rows_between w.starts.items w.entries.items w.dst_cells;
}

-- Each row begins where the one before it ends, within the entries.
pub record AreStarts (starts : List ℕ) (dst_cells count : ℕ) : Type 0 where
  pub size : length starts ≡ dst_cells + 1
  pub ascending : (k : ℕ) → k < dst_cells → slice_index starts k ≤ slice_index starts (k + 1)
  pub within : (k : ℕ) → k ≤ dst_cells → slice_index starts k ≤ count

-- What is kept is a table of rows.
pub record IsKept (w : Inside) : Type 0 where
  pub starts : AreStarts w.starts.items w.dst_cells (length w.entries.items)
  pub rows : All (IsRow w.src_cells) (rows_between w.starts.items w.entries.items w.dst_cells)

-- ---- marks

-- a source cell is marked
abbrev pub is_marked : List Bool → ℕ → Bool
is_marked marks src = slice_index_or marks src false
