use Rattle.std.proofs.Common.{◌≡◌, ◌∙◌, ◌+◌, ◌++◌, ◌∷◌, [], List, Ok, ap, arith, append_assoc, map, sym}
use Rattle.csv.specs.Records.{fields_of}
use Rattle.cpl_smm.specs.Kept.{GaveRecord, dst_of, entry_of, judged_from, kept_answer, kept_from, records_left}
use Rattle.cpl_smm.specs.Records.{record_factor}
use Rattle.cpl_smm.specs.Rows.{Entry}
use Rattle.cpl_smm.specs.declared.entries.KeptFactor.{KeptFactor}
use Rattle.cpl_smm.proofs.JudgedFacts.{kept_answer-ok, record_factor-ok, step-factors, step-fault}
use Rattle.cpl_smm.proofs.reading.read_factors.Goals as goal

pub loop-number-init : goal.loop-number-init
loop-number-init c = record {
  reading = c.reader-reader.ensures.reading;
  dsts =
      ap (λ ds. ds ++ map dst_of (kept_from 1 (judged_from c.args.src_cells c.args.dst_cells 1 (records_left c.reader-reader.result)).factors)) c.new-dsts.ensures.items
      ∙ ap (λ left. map dst_of (kept_from 1 (judged_from c.args.src_cells c.args.dst_cells 1 left).factors)) c.reader-reader.ensures.left;
  entries =
      ap (λ (es : List Entry). es ++ map entry_of (kept_from 1 (judged_from c.args.src_cells c.args.dst_cells 1 (records_left c.reader-reader.result)).factors)) c.new-entries.ensures.items
      ∙ ap (λ left. map entry_of (kept_from 1 (judged_from c.args.src_cells c.args.dst_cells 1 left).factors)) c.reader-reader.ensures.left;
  few = omega arith;
  fault = ap (λ left. (judged_from c.args.src_cells c.args.dst_cells 1 left).fault) c.reader-reader.ensures.left;
}

pub loop-number-preserved : goal.loop-number-preserved
loop-number-preserved c =
    let n = c.loop-number.number in
    let fields = fields_of c.reads_on.new.csv_record in
    let src_cells = c.args.src_cells in
    let dst_cells = c.args.dst_cells in
    let more = judged_from src_cells dst_cells (n + 1) (records_left c.reads_on.new.reader) in
    let r = record_factor src_cells dst_cells n fields in
    let kept = c.in-Ok.factor in
    let said : Ok kept ≡ kept_answer n r = sym c.in-Ok.is ∙ c.kept_factor.ensures in
    let gave : GaveRecord c.loop-number.reader c.reads_on.new.reader fields = rw c.if-not-branch.false at c.in_ok-reads_on.ensures.ok in
    let (factor, ok) = kept_answer-ok n r kept said in
    let within = (record_factor-ok src_cells dst_cells n fields factor ok).1 in
    let left = sym gave.left in
    let next = sym (step-factors n r more kept said) in
    record {
      reading = gave.reading;
      dsts =
          ap (λ ds. ds ++ map dst_of (kept_from (n + 1) more.factors)) c.in_ok-push-in-Ok.ensures.items
          ∙ append_assoc c.loop-number.dsts.items (dst_of kept ∷ []) (map dst_of (kept_from (n + 1) more.factors))
          ∙ ap (λ (ks : List KeptFactor). c.loop-number.dsts.items ++ map dst_of ks) next
          ∙ ap (λ left. c.loop-number.dsts.items ++ map dst_of (kept_from n (judged_from src_cells dst_cells n left).factors)) left
          ∙ c.loop-number.invariant.dsts;
      entries =
          ap (λ (es : List Entry). es ++ map entry_of (kept_from (n + 1) more.factors)) c.in_ok-push-in-Ok-2.ensures.items
          ∙ ap (λ e. (c.loop-number.entries.items ++ e ∷ []) ++ map entry_of (kept_from (n + 1) more.factors)) c.entry.ensures
          ∙ append_assoc c.loop-number.entries.items (entry_of kept ∷ []) (map entry_of (kept_from (n + 1) more.factors))
          ∙ ap (λ (ks : List KeptFactor). c.loop-number.entries.items ++ map entry_of ks) next
          ∙ ap (λ left. c.loop-number.entries.items ++ map entry_of (kept_from n (judged_from src_cells dst_cells n left).factors)) left
          ∙ c.loop-number.invariant.entries;
      few = omega (arith, within);
      fault = sym (step-fault n r more kept said) ∙ ap (λ left. (judged_from src_cells dst_cells n left).fault) left ∙ c.loop-number.invariant.fault;
    }
