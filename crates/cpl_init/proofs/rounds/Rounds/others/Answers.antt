use Rattle.std.proofs.Common.{◌≡◌, ℕ, ◌++◌, ◌∷◌, [], true, arith, ap, sym, ◌∙◌, Vec, Global}
use Rattle.std.proofs.lemmas.List.{get_or_read}
use Rattle.std.specs.List.{slice_index_or}
use Rattle.cpl_init.specs.Rounds.{free_components}
use Rattle.cpl_init.proofs.RoundFacts.{free_components-more, free_components-same}
use Rattle.cpl_init.proofs.rounds.Rounds.others.Goals as goal
use Rattle.cpl_init.proofs.rounds.Rounds.others.Goals.{then-not-index+in_ok-push, else-not-index}

pub loop-component-init : goal.loop-component-init
unfolding free_components
loop-component-init c = c.new-others.ensures.items

pub loop-component-preserved : goal.loop-component-preserved
loop-component-preserved c =
    let rounds = c.args.self.now in
    let k = c.loop-component.component in
    let read : slice_index_or rounds.placed.items k true ≡ c.index.result.now = ap (λ j. slice_index_or rounds.placed.items j true) (sym c.from.ensures) ∙ sym (get_or_read rounds.placed.items c.from.result c.index.result.now (omega (arith, rounds.placed.ok.0)) c.index.ensures true) in
    elim c.if-not-index.branch [
      | then-not-index+in_ok-push w ↦ ap (λ (v : Vec ℕ Global). v.items) w.others-is ∙ w.in_ok-push.ensures.items ∙ ap (λ xs. xs ++ k ∷ []) c.loop-component.invariant ∙ sym (free_components-more k rounds.placed.items (read ∙ w.if-not-index.true))
      | else-not-index w ↦ ap (λ (v : Vec ℕ Global). v.items) w.others-is ∙ c.loop-component.invariant ∙ sym (free_components-same k rounds.placed.items (read ∙ w.if-not-index.false))
    ]
