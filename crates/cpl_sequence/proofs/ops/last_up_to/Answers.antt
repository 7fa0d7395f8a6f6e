use Rattle.std.proofs.Common.{rules, of_calls, leb}
use Rattle.std.proofs.lemmas.Fn.{always_returns_same}
use Rattle.std.proofs.lemmas.List.Sorted.{IsPartitionedBy-leb}
use Rattle.cpl_sequence.specs.declared.marks.Mark.{out-Mark}
use Rattle.cpl_sequence.proofs.PlaceFacts.{last-from_point}
use Rattle.cpl_sequence.proofs.ops.last_up_to.Goals as goal

pub overflow_sub-result : goal.overflow_sub-result
overflow_sub-result c =
    let point = c.partition_point-behind.ensures.partitioned (λ mark. leb (out-Mark mark).before c.args.k) (always_returns_same _ _ _ (λ a r f k. search (rules, of_calls)))
    (IsPartitionedBy-leb (λ mark. (out-Mark mark).before) c.args.marks.now c.args.k c.requires.rising) in
    (last-from_point c.args.marks.now c.args.k c.partition_point-behind.result c.requires c.partition_point-behind.ensures.bound point).0

pub returns : goal.returns
returns c =
    let point = c.partition_point-behind.ensures.partitioned (λ mark. leb (out-Mark mark).before c.args.k) (always_returns_same _ _ _ (λ a r f k. search (rules, of_calls)))
    (IsPartitionedBy-leb (λ mark. (out-Mark mark).before) c.args.marks.now c.args.k c.requires.rising) in
    (last-from_point c.args.marks.now c.args.k c.partition_point-behind.result c.requires c.partition_point-behind.ensures.bound point).1
