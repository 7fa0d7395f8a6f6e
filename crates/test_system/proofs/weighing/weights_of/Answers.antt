use Rattle.std.proofs.Common.{List, arith, rules, subst}
use Rattle.std.specs.List.{All, zip}
use Rattle.std.proofs.lemmas.List.{take_all}
use Rattle.cpl_sequence.specs.declared.link_line.LinkLine.{LinkLine}
use Rattle.test_system.specs.Weighed.{IsWeighed}
use Rattle.test_system.proofs.MakingFacts.{zip-next}
use Rattle.test_system.proofs.weighing.weights_of.Goals as goal

pub loop-line-preserved : goal.loop-line-preserved
loop-line-preserved c =
    let now = c.loop-line in
    record {
      count = search rules;
      each = zip-next (IsWeighed c.args.comps.now) c.args.lines.now now.weights.items c.push.new.self.items now.line-index c.line-item.result c.in_ok-given.given c.loop-line-test.true c.line-item.is now.invariant.count c.in_ok-push.ensures.items now.invariant.each c.in_ok-given.ensures;
    }

pub returns-clause-each : goal.returns-clause-each
returns-clause-each c =
    let all = take_all c.loop-line.line-index c.args.lines.now (omega arith) in
    subst (λ (lines : List LinkLine). All (IsWeighed c.args.comps.now) (zip lines c.loop-line.weights.items)) all c.loop-line.invariant.each
