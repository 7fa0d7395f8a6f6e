use Rattle.cpl_trace.specs.Merging.{IsMerged, rows_of}
use Rattle.cpl_trace.proofs.UniqueFacts.{IsMerged-unique}
use Rattle.cpl_trace.proofs.merging.merge_logs.Goals as goal

pub returns-clause-unique : goal.returns-clause-unique
returns-clause-unique c = λ others merged.
    let summed = c.in_ok-rows.ensures.summed in
    let is : IsMerged (rows_of c.args.logs.now) c.in_ok-rows.rows.items = record {
      ascending = summed.ascending;
      keys = summed.keys;
      sums = summed.sums;
      columns = c.in_ok-rows.ensures.columns (rows_of c.args.logs.now) c.requires.logs.agree;
    } in
    IsMerged-unique (rows_of c.args.logs.now) others c.in_ok-rows.rows.items merged is
