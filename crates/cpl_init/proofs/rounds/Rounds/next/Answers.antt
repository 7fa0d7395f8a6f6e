use Rattle.std.proofs.Common.{◌≡◌, true, false, not, ◌&&◌, arith, ap, sym, ◌∙◌}
use Rattle.std.proofs.lemmas.Bool.{and_from, eq-eqb, not_from_false}
use Rattle.std.proofs.lemmas.List.{get_or_read}
use Rattle.std.specs.Prelude.{◌==◌}
use Rattle.std.specs.List.{slice_index, slice_index_or}
use Rattle.cpl_init.specs.Rounds.{first_free_component}
use Rattle.cpl_init.proofs.RangeFacts.{find-range_first, find-range_none}
use Rattle.cpl_init.proofs.rounds.Rounds.next.Goals as goal

pub returns-then-index-eq0-clause-value : goal.returns-then-index-eq0-clause-value
unfolding first_free_component
returns-then-index-eq0-clause-value c =
    let rounds = c.args.self.now in
    let k = c.loop-component.component in
    let free : slice_index_or rounds.placed.items k true ≡ false = ap (λ j. slice_index_or rounds.placed.items j true) (sym c.from-at.ensures) ∙ sym (get_or_read rounds.placed.items c.from-at.result c.index.result.now (omega (arith, rounds.placed.ok.0)) c.index.ensures true) ∙ c.if-not-index.true in
    let none : slice_index rounds.missing.items k ≡ 0 = ap (slice_index rounds.missing.items) (sym c.from-at.ensures) ∙ sym (get_or_read rounds.missing.items c.from-at.result c.index-then-not-index.result.now (omega (arith, rounds.missing.ok.0)) c.index-then-not-index.ensures 0) ∙ c.if-index-eq0.true in
    sym (find-range_first (λ j. not (slice_index_or rounds.placed.items j true) && (slice_index rounds.missing.items j == 0)) 0 rounds.count k (omega arith) (omega arith) (and_from _ _ (not_from_false _ free) (eq-eqb _ _ none)) (λ j from below. c.loop-component.invariant j below))

pub returns-clause-value : goal.returns-clause-value
unfolding first_free_component
returns-clause-value c =
    let rounds = c.args.self.now in
    sym (find-range_none (λ k. not (slice_index_or rounds.placed.items k true) && (slice_index rounds.missing.items k == 0)) 0 rounds.count (λ k from to. c.loop-component.invariant k (omega arith)))
