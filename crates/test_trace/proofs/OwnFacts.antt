-- Rows of the tests agree.
use Rattle.std.proofs.Common.{◌≡◌, ℕ, true, ◌&&◌, pos, List, [], ◌∷◌, sym, ap, ◌∙◌, arith}
use Rattle.std.specs.Prelude.{◌==◌}
use Rattle.std.specs.List.{All}
use Rattle.std.proofs.lemmas.Bool.Decides.{nat_tests}
use Rattle.std.proofs.lemmas.List.Elements.{All-append, All-head, All-tail, All-weaker}
use Rattle.cpl_trace.specs.Logs.{Log}
use Rattle.cpl_trace.specs.Merging.{AreLogs, rows_of}
use Rattle.cpl_trace.specs.Rows.{AgreesWith, IsAscending, IsLike, IsSmall, is_at}
use Rattle.cpl_trace.specs.declared.row.TraceRow.{TraceRow}
use Rattle.test_trace.specs.Own.{IsOwn}

pair-is : (a b c d : ℕ) → ((c == a) && (d == b)) ≡ true → (c ≡ a) × (d ≡ b)
pair-is a b c d both = (grind (arith, nat_tests), grind (arith, nat_tests))

-- two rows of one operation and one field are like each other
like : (row other : TraceRow) → IsOwn row → IsOwn other → is_at row.op row.field other ≡ true → IsLike row other
like row other first second is =
    let same = pair-is row.op row.field other.op other.field is in
    record {
      op = sym same.0;
      component = first.component ∙ sym same.1 ∙ sym second.component;
      phase = first.phase ∙ sym same.1 ∙ sym second.phase;
      field = sym same.1;
      stamp = first.stamp ∙ ap pos (sym same.0) ∙ sym second.stamp;
    }

own-rows : (logs : List Log) → All (λ log. All IsOwn log.rows) logs → All IsOwn (rows_of logs)
own-rows [] all = λ k d below. absurd (omega arith)
own-rows (log ∷ logs) all =
    All-append IsOwn log.rows (rows_of logs) (All-head (λ one. All IsOwn one.rows) log logs all) (own-rows logs (All-tail (λ one. All IsOwn one.rows) log logs all))

-- logs of such rows may be merged
pub AreLogs-own : (logs : List Log) → All (λ log. IsAscending log.rows) logs → All (λ log. All IsSmall log.rows) logs → All (λ log. All IsOwn log.rows) logs → AreLogs logs
AreLogs-own logs ascending small own =
    let all = own-rows logs own in
    record {
      ascending = ascending;
      small = small;
      agree = All-weaker IsOwn (AgreesWith (rows_of logs)) (λ row first. All-weaker IsOwn (λ other. is_at row.op row.field other ≡ true → IsLike row other) (λ other second. like row other first second) (rows_of logs) all) (rows_of logs) all;
    }
