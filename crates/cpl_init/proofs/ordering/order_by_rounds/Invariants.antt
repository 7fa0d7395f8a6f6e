use Rattle.std.proofs.Common.{◌≡◌, ◌-◌, length}
use Rattle.cpl_init.specs.Orders.{complete_order, order_behind}
use Rattle.cpl_init.specs.Rounds.{IsRounds}
use Rattle.cpl_init.proofs.ordering.order_by_rounds.Given as goal

-- the rounds behind those placed so far, one in each, and behind these comes what is left of the order
abbrev pub invariant-loop-round : goal.invariant-loop-round
invariant-loop-round l = record {
  count : l.rounds.count ≡ l.components;
  rounds : IsRounds l.components l.needs l.order.items l.rounds.needed.items l.rounds.missing.items l.rounds.placed.items;
  placed : length l.order.items ≡ l._round;
  rest : order_behind (l.components - l._round) l.components l.needs l.order.items ≡ complete_order l.components l.needs;
}
