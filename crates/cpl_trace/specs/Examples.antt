-- The definitions of traces, evaluated on examples.
use Rattle.std.specs.Prelude.{◌≡◌, ℕ, ℤ, pos, neg_ℤ, true, false, codes, [], ◌∷◌}
use Rattle.cpl_trace.specs.Lines.{trace_text}
use Rattle.cpl_trace.specs.Rows.{has_row, is_before, sum_at}
use Rattle.cpl_trace.specs.Steps.{merge_rows}
use Rattle.cpl_trace.specs.declared.names.TraceNames.{TraceNames}
use Rattle.cpl_trace.specs.declared.row.TraceRow.{TraceRow}

-- a row of the first component's first phase, at a stamp of its operation
abbrev pub row_at : ℕ → ℕ → ℤ → TraceRow
row_at op field sum = record { op = op; component = 0; phase = 0; field = field; stamp = pos op; sum = sum }

-- one component with a phase and two fields
abbrev pub some_names : TraceNames
some_names = record { components = codes "A" ∷ []; phases = (codes "run" ∷ []) ∷ []; fields = (codes "x" ∷ codes "y" ∷ []) ∷ [] }

-- rows in their order, their sums, two lists merged, and the text of what came out
pub record TraceExamples : Type 0 where
  pub by_operation : is_before (row_at 3 7 (pos 1)) (row_at 6 0 (pos 1)) ≡ true
  pub by_field : is_before (row_at 3 0 (pos 1)) (row_at 3 1 (pos 1)) ≡ true
  pub not_before_itself : is_before (row_at 3 1 (pos 1)) (row_at 3 1 (pos 2)) ≡ false
  pub sum : sum_at 3 1 (row_at 3 1 (pos 5) ∷ row_at 6 1 (pos 7) ∷ row_at 3 1 (neg_ℤ (pos 9)) ∷ []) ≡ neg_ℤ (pos 4)
  pub has : has_row 6 1 (row_at 3 1 (pos 5) ∷ row_at 6 1 (pos 7) ∷ []) ≡ true
  pub has_not : has_row 6 0 (row_at 3 0 (pos 5) ∷ row_at 6 1 (pos 7) ∷ []) ≡ false
  pub merged : merge_rows (row_at 3 0 (pos 1) ∷ row_at 6 0 (pos 2) ∷ []) (row_at 3 0 (pos 4) ∷ row_at 3 1 (pos 8) ∷ []) ≡ row_at 3 0 (pos 5) ∷ row_at 3 1 (pos 8) ∷ row_at 6 0 (pos 2) ∷ []
  pub text : trace_text some_names (row_at 3 0 (pos 1000000) ∷ row_at 6 1 (neg_ℤ (pos 2500000)) ∷ []) ≡ codes "op,component,phase,field,stamp,sum\n3,A,run,x,3,1.000000\n6,A,run,y,6,-2.500000\n"
  pub no_rows : trace_text some_names [] ≡ codes "op,component,phase,field,stamp,sum\n"
