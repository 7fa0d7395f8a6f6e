use Rattle.std.proofs.Common.{◌≡◌, ◌++◌, ◌+◌, ◌≤◌, map}
use Rattle.cpl_smm.specs.Kept.{IsReading, dst_of, entry_of, judged_from, judged_of, kept_from, records_left}
use Rattle.cpl_smm.specs.Records.{most_records}
use Rattle.cpl_smm.proofs.reading.read_factors.Given as goal

-- what is left, behind the factors so far
abbrev pub invariant-loop-number : goal.invariant-loop-number
invariant-loop-number l = record {
  reading : IsReading l.reader;
  dsts : l.dsts.items ++ map dst_of (kept_from l.number (judged_from l.src_cells l.dst_cells l.number (records_left l.reader)).factors)
      ≡ map dst_of (kept_from 1 (judged_of l.src_cells l.dst_cells l.bytes).factors);
  entries : l.entries.items ++ map entry_of (kept_from l.number (judged_from l.src_cells l.dst_cells l.number (records_left l.reader)).factors)
      ≡ map entry_of (kept_from 1 (judged_of l.src_cells l.dst_cells l.bytes).factors);
  few : l.number ≤ most_records + 1;
  fault : (judged_from l.src_cells l.dst_cells l.number (records_left l.reader)).fault ≡ (judged_of l.src_cells l.dst_cells l.bytes).fault;
}
