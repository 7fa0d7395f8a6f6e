use Rattle.std.proofs.Common.{ap, get_or, ◌∙◌}
use Rattle.std.specs.Prelude.{unwrap_or}
use Rattle.std.proofs.lemmas.Option.{unwrap_or-slice_get}
use Rattle.cpl_sequence.proofs.run_ends.count_of.Goals as goal

pub returns-in-None : goal.returns-in-None
returns-in-None c =
    ap (λ o. unwrap_or o 0) c.in-None.ensures
    ∙ unwrap_or-slice_get c.args.counts.now c.from.result 0
    ∙ ap (λ k. get_or c.args.counts.now k 0) c.from.ensures
