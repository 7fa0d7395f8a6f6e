use Rattle.std.proofs.Common.{◌≡◌, ◌<◌, ap, ◌∙◌, length, map, arith, replicate, pos}
use Rattle.std.specs.Vec.{with_items}
use Rattle.std.proofs.lemmas.Grind.{common_steps}
use Rattle.std.proofs.lemmas.List.Elements.{All-same}
use Rattle.cpl_base.specs.Numbers.{IsValue}
use Rattle.cpl_base.specs.Rounding.{near_of}
use Rattle.cpl_mediator.proofs.AveragesFacts.{StandsFor-fresh, average_of-sums, average_of-values}
use Rattle.cpl_mediator.specs.Averages.{RunningSums}
use Rattle.cpl_mediator.proofs.accum.Accum.average.Goals as goal

pub returns-clause-value : goal.returns-clause-value
returns-clause-value c = λ kept stands.
    let averages : c.take_averages.new.into ≡ map (λ sum. near_of sum (pos c.self.inside.count)) c.as_mut_slice.result.now = c.take_averages.ensures.averages in
    averages
    ∙ ap (map (λ sum. near_of sum (pos c.self.inside.count))) (c.as_mut_slice.ensures.value ∙ ap (λ (running : RunningSums). running.sums) c.self.view_is)
    ∙ ap (λ n. map (λ sum. near_of sum (pos n)) c.args.self.now.sums) (ap (λ (running : RunningSums). running.count) c.self.view_is)
    ∙ average_of-sums c.args.self.now kept stands

pub returns-clause-within : goal.returns-clause-within
returns-clause-within c = λ kept stands all.
    let same : c.self.inside.count ≡ c.args.self.now.count = ap (λ (running : RunningSums). running.count) c.self.view_is in
    let some : 0 < length kept = omega (arith, same, stands.count, c.if-self-eq0.false) in
    All-same IsValue _ _ (returns-clause-value c kept stands) (average_of-values (length c.args.self.now.sums) kept some all)

pub returns-clause-stands : goal.returns-clause-stands
returns-clause-stands c =
    let items : (with_items c.self.inside.sums c.take_averages.new.sums).items ≡ replicate (length c.args.self.now.sums) (pos 0) = grind (arith, common_steps) in
    StandsFor-fresh _ (length c.args.self.now.sums) (λ i. record { count = 0; sums = items i })
