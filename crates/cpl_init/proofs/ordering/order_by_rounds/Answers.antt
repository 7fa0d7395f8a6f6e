use Rattle.std.proofs.Common.{◌≡◌, suc, ◌+◌, ◌-◌, ◌++◌, ◌∷◌, [], Some, None, Err, length, arith, ap, sym, ◌∙◌, length-append}
use Rattle.cpl_init.specs.Orders.{complete_order, order_behind, other_components}
use Rattle.cpl_init.specs.Rounds.{IsLowered, free_components}
use Rattle.cpl_init.proofs.OrderFacts.{initial_order-err, next_of-is, order_behind-none, order_behind-some}
use Rattle.cpl_init.proofs.RoundFacts.{IsRounds-placed, MissesEach-rounds, next_of-rounds, other_components-rounds}
use Rattle.cpl_init.proofs.ordering.order_by_rounds.Goals as goal

pub place-requires-clause-misses : goal.place-requires-clause-misses
place-requires-clause-misses c =
    let so_far = c.loop-round.invariant in
    let rounds = c.loop-round.rounds in
    let first = rw so_far.count at (sym c.in-Some.is ∙ c.next.ensures.value) in
    let some = next_of-rounds c.args.components c.args.needs.now c.loop-round.order.items rounds.needed.items rounds.missing.items rounds.placed.items (Some c.in-Some.next) c.requires so_far.rounds first in
    let next = next_of-is c.args.components c.args.needs.now c.loop-round.order.items c.in-Some.next some in
    rw so_far.count (MissesEach-rounds c.args.components c.args.needs.now c.loop-round.order.items rounds.needed.items rounds.missing.items rounds.placed.items c.in-Some.next so_far.rounds next.within next.new)

pub loop-round-preserved : goal.loop-round-preserved
loop-round-preserved c =
    let so_far = c.loop-round.invariant in
    let count = c.args.components in
    let needs = c.args.needs.now in
    let rounds = c.loop-round.rounds in
    let order = c.loop-round.order.items in
    let k = c.in-Some.next in
    let after = c.place.new.self in
    let first = rw so_far.count at (sym c.in-Some.is ∙ c.next.ensures.value) in
    let some = next_of-rounds count needs order rounds.needed.items rounds.missing.items rounds.placed.items (Some k) c.requires so_far.rounds first in
    let next = next_of-is count needs order k some in
    let pushed : c.push.new.self.items ≡ order ++ k ∷ [] = c.in_ok-push.ensures.items in
    let lowered : IsLowered count k rounds.needed.items rounds.missing.items after.missing.items = rw so_far.count at c.place.ensures.missing in
    let counts : length after.missing.items ≡ count = omega (arith, after.missing.ok.0, after.counts) in
    let placed = IsRounds-placed count needs order rounds.needed.items rounds.missing.items rounds.placed.items k after.missing.items so_far.rounds next.within next.new lowered counts in
    let left : count - c.loop-round._round ≡ suc (count - (c.loop-round._round + 1)) = omega arith in
    let goes_on = order_behind-some (count - (c.loop-round._round + 1)) count needs order k some in
    record {
      count = c.place.ensures.count ∙ so_far.count;
      rounds = rw (pushed, c.place.ensures.needed, c.place.ensures.placed) placed;
      placed = omega (arith, ap length pushed, length-append order (k ∷ []));
      rest = rw pushed (sym goes_on ∙ ap (λ n. order_behind n count needs order) (sym left) ∙ so_far.rest);
    }

pub returns-in_default : goal.returns-in_default
returns-in_default c =
    let so_far = c.loop-round.invariant in
    let count = c.args.components in
    let needs = c.args.needs.now in
    let rounds = c.loop-round.rounds in
    let order = c.loop-round.order.items in
    let first = rw so_far.count at (sym c.in_default.is ∙ c.next.ensures.value) in
    let none = next_of-rounds count needs order rounds.needed.items rounds.missing.items rounds.placed.items None c.requires so_far.rounds first in
    let is : order ≡ complete_order count needs = sym (order_behind-none (count - c.loop-round._round) count needs order none) ∙ so_far.rest in
    let free : c.in_ok-others.field-0.items ≡ free_components count rounds.placed.items = c.in_ok-others.ensures ∙ ap (λ n. free_components n rounds.placed.items) so_far.count in
    let others : c.of-waiting.result ≡ other_components count order = c.of-waiting.ensures ∙ free ∙ other_components-rounds count needs order rounds.needed.items rounds.missing.items rounds.placed.items so_far.rounds in
    record { order = tt; waiting = initial_order-err count needs order is (omega arith) ∙ ap Err (sym others) }
