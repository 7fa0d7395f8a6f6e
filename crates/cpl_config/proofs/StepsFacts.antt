-- Reading line by line gives the entries of the definition, which looks at all lines at once.
use Rattle.std.proofs.Common.{◌≡◌, ℕ, Bool, true, false, not, cond, inl, inr, List, [], ◌∷◌, ◌++◌, map, Option, Some, None, is_some, Result, Ok, Err, ◌+◌, take, refl, sym, ap, ◌∙◌, append_assoc, arith, suc}
use Rattle.std.proofs.lemmas.Bool.{cases_Bool}
use Rattle.std.proofs.lemmas.List.{append-nil}
use Rattle.std.specs.List.{list_any, prefix_len}
use Rattle.cpl_base.specs.ResultChain.{◌>>=◌}
use Rattle.cpl_config.specs.declared.entry.Entry.{Entry}
use Rattle.cpl_config.specs.declared.fault.ItemFault.{ItemFault}
use Rattle.cpl_config.specs.declared.fault.ItemFault.TheVariants.{Unclosed}
use Rattle.cpl_config.specs.declared.row.Row.{Row}
use Rattle.cpl_config.specs.declared.row.Table.{Table}
use Rattle.cpl_config.specs.Items.{WordLine, entries_with, items_of, outside_lines, row_of, rows_of, table_entry, table_under, value_entry, value_under}
use Rattle.cpl_config.specs.Steps.{Progress, progress_of, with_row}
use Rattle.cpl_config.specs.Words.{is_table_end, table_label, value_item}

-- what is read at the end of the file
abbrev pub entries_at_end : List Entry → Option (List ℕ × Table) → Result (List Entry) ItemFault
entries_at_end entries None = Ok entries
entries_at_end entries (Some table) = Err (Unclosed table.1.line)

-- what is read of further lines, behind these entries and in this table
abbrev pub entries_from : List WordLine → List Entry → Option (List ℕ × Table) → Result (List Entry) ItemFault
entries_from [] entries table = entries_at_end entries table
entries_from (line ∷ lines) entries table = progress_of entries table line >>= (λ after. entries_from lines after.0 after.1)

-- whether some line closes the table
abbrev closes_any : List WordLine → Bool
closes_any lines = list_any (λ line. is_table_end line.words) lines

-- the table with all rows up to its end
abbrev whole : Table → List WordLine → Table
whole table lines = record { line = table.line; rows = table.rows ++ rows_of lines }

-- what the definition gives of lines that begin in a table
abbrev entries_inside : List WordLine → List Entry → List ℕ × Table → Result (List Entry) ItemFault
entries_inside lines entries table =
    cond (closes_any lines) (entries_with (entries ++ table_entry table.0 (whole table.1 lines) ∷ []) (outside_lines true lines)) (Err (Unclosed table.1.line))

-- What is read of lines is what the definition gives, outside of tables and in one.
record Reads (lines : List WordLine) : Type 0 where
  out : (entries : List Entry) → entries_from lines entries None ≡ entries_with entries (outside_lines false lines)
  in_table : (entries : List Entry) (table : List ℕ × Table) → entries_from lines entries (Some table) ≡ entries_inside lines entries table

-- a line outside of tables, where it is known what it opens and which values it has
step_outside : (l : WordLine) (ls : List WordLine) → Reads ls → (entries : List Entry) (o : Option (List ℕ)) (v : Option (List ℕ × List (List ℕ))) → table_label l.words ≡ o → value_item l.words ≡ v
    → entries_from (l ∷ ls) entries None ≡ entries_with entries (outside_lines false (l ∷ ls))
step_outside l ls reads entries None None eo ev = rw (eo, ev) refl
step_outside l ls reads entries None (Some v) eo ev =
    let row : Row = record { line = l.number; words = v.1 } in
    elim (cases_Bool (is_some (value_under v.0 entries))) [
      | inl e ↦ rw (eo, ev, e) refl
      | inr e ↦ rw (eo, ev, e) (reads.out (entries ++ value_entry v.0 row ∷ []))
    ]
step_outside l ls reads entries (Some label) v eo ev =
    let table : Table = record { line = l.number; rows = [] } in
    elim (cases_Bool (is_some (table_under label entries))) [
      | inl e ↦ rw (eo, e) refl
      | inr e ↦ elim (cases_Bool (closes_any ls)) [
        | inl f ↦ rw (eo, e, f) (reads.in_table entries (label, table) ∙ rw f refl)
        | inr f ↦ rw (eo, e, f) (reads.in_table entries (label, table) ∙ rw f refl)
      ]
    ]

-- a line of a table, where it is known whether it closes the table
step_inside : (l : WordLine) (ls : List WordLine) → Reads ls → (entries : List Entry) (table : List ℕ × Table) → entries_from (l ∷ ls) entries (Some table) ≡ entries_inside (l ∷ ls) entries table
step_inside l ls reads entries table =
    elim (cases_Bool (is_table_end l.words)) [
      | inl e ↦ rw e (reads.out (entries ++ table_entry table.0 table.1 ∷ [])
          ∙ ap (λ (rows : List Row). entries_with (entries ++ table_entry table.0 (record { line = table.1.line; rows = rows }) ∷ []) (outside_lines false ls)) (sym (append-nil table.1.rows)))
      | inr e ↦
          let count = prefix_len (λ line. not (is_table_end line.words)) ls in
          let one : suc count ≡ 1 + count = omega arith in
          rw e (reads.in_table entries (table.0, with_row table.1 (row_of l))
          ∙ ap (λ (rows : List Row). cond (closes_any ls) (entries_with (entries ++ table_entry table.0 (record { line = table.1.line; rows = rows }) ∷ []) (outside_lines true ls)) (Err (Unclosed table.1.line)))
          (append_assoc table.1.rows (row_of l ∷ []) (rows_of ls) ∙ ap (λ n. table.1.rows ++ map row_of (take n (l ∷ ls))) one))
    ]

all_reads : (lines : List WordLine) → Reads lines
all_reads [] = record { out = λ entries. refl; in_table = λ entries table. refl }
all_reads (l ∷ ls) =
    let rest = all_reads ls in
    record {
      out = λ entries. step_outside l ls rest entries (table_label l.words) (value_item l.words) refl refl;
      in_table = step_inside l ls rest;
    }

-- reading from the first line on, with nothing before it
pub entries_from-first : (lines : List WordLine) → entries_from lines [] None ≡ items_of lines
unfolding items_of
entries_from-first lines = (all_reads lines).out []

-- a fault of the line at hand is that of all that are left
pub entries_from-fault : (line : WordLine) (lines : List WordLine) (entries : List Entry) (table : Option (List ℕ × Table)) (fault : ItemFault) → progress_of entries table line ≡ Err fault → entries_from (line ∷ lines) entries table ≡ Err fault
entries_from-fault line lines entries table fault is = ap (λ (r : Result Progress ItemFault). r >>= (λ after. entries_from lines after.0 after.1)) is

-- one function after another
pub map_map : {A B C : Type 0} (f : A → B) (g : B → C) (xs : List A) → map (λ x. g (f x)) xs ≡ map g (map f xs)
map_map f g [] = refl
map_map {C = C} f g (x ∷ xs) = ap (λ (ys : List C). g (f x) ∷ ys) (map_map f g xs)
