use Rattle.std.proofs.Common.{rules, of_calls, ltb, ◌∙◌, sym, arith, get_or}
use Rattle.std.proofs.lemmas.Fn.{always_returns_same}
use Rattle.std.proofs.lemmas.List.{get_or_default}
use Rattle.cpl_route.specs.declared.table.Span.{Span}
use Rattle.cpl_route.specs.Tables.{span_rank}
use Rattle.cpl_route.proofs.RouteFacts.{found-at, not_found-at, not_found-end, ranks-parted}
use Rattle.cpl_route.proofs.route.range_between.Goals as goal

-- what stands for a span that isn't there
abbrev empty_span : Span
empty_span = record { from = 0; to = 0; start = 0; end = 0 }

pub returns-then-place-spans-clause-value : goal.returns-then-place-spans-clause-value
returns-then-place-spans-clause-value c =
    let point = c.partition_point-place.ensures.partitioned (λ span. ltb (span_rank span) c.rank_between-rank.result) (always_returns_same _ _ _ (λ a r f k. search (rules, of_calls)))
    (ranks-parted c.args.spans.now c.rank_between-rank.result c.requires.rising) in
    not_found-end c.args.spans.now c.args.from c.args.to c.rank_between-rank.result c.partition_point-place.result c.requires.rising c.rank_between-rank.ensures point c.if-place-spans.true

pub returns-then-not-is_of-clause-value : goal.returns-then-not-is_of-clause-value
returns-then-not-is_of-clause-value c =
    let point = c.partition_point-place.ensures.partitioned (λ span. ltb (span_rank span) c.rank_between-rank.result) (always_returns_same _ _ _ (λ a r f k. search (rules, of_calls)))
    (ranks-parted c.args.spans.now c.rank_between-rank.result c.requires.rising) in
    let span = get_or c.args.spans.now c.partition_point-place.result empty_span in
    not_found-at c.args.spans.now c.args.size c.args.from c.args.to c.rank_between-rank.result c.partition_point-place.result span c.requires.spans (omega arith) c.requires.rising c.rank_between-rank.ensures point c.if-place-spans.false
    (get_or_default c.args.spans.now c.partition_point-place.result empty_span span c.if-place-spans.false) (sym c.is_of.ensures ∙ c.if-not-is_of.true)

pub returns-clause-value : goal.returns-clause-value
returns-clause-value c =
    let point = c.partition_point-place.ensures.partitioned (λ span. ltb (span_rank span) c.rank_between-rank.result) (always_returns_same _ _ _ (λ a r f k. search (rules, of_calls)))
    (ranks-parted c.args.spans.now c.rank_between-rank.result c.requires.rising) in
    let span = get_or c.args.spans.now c.partition_point-place.result empty_span in
    found-at c.args.spans.now c.args.from c.args.to c.rank_between-rank.result c.partition_point-place.result span c.requires.rising c.rank_between-rank.ensures point c.if-place-spans.false
    (get_or_default c.args.spans.now c.partition_point-place.result empty_span span c.if-place-spans.false) (sym c.is_of.ensures ∙ c.if-not-is_of.false)
