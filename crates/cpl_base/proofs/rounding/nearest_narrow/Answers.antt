use Rattle.std.proofs.Common.{◌≡◌, sym, ap, ◌∙◌}
use Rattle.cpl_base.proofs.RoundingFacts.{nearest_size-less, nearest_size-more, passes_at}
use Rattle.cpl_base.proofs.rounding.nearest_narrow.Goals as goal
use Rattle.cpl_base.proofs.rounding.nearest_narrow.Goals.{then-half_up, else-half_up}

pub returns-then-passes : goal.returns-then-passes
returns-then-passes c =
    let is : c.if-half_up.passes ≡ passes_at c.args.half_up c.args.size c.args.d = elim c.if-half_up.branch [
      | then-half_up w ↦ w.passes-is ∙ ap (λ b. passes_at b c.args.size c.args.d) (sym w.if-half_up.true)
      | else-half_up w ↦ w.passes-is ∙ ap (λ b. passes_at b c.args.size c.args.d) (sym w.if-half_up.false)
    ] in
    nearest_size-more c.args.half_up c.args.size c.args.d c.requires (sym is ∙ c.if-passes.true)

pub returns-else-passes : goal.returns-else-passes
returns-else-passes c =
    let is : c.if-half_up.passes ≡ passes_at c.args.half_up c.args.size c.args.d = elim c.if-half_up.branch [
      | then-half_up w ↦ w.passes-is ∙ ap (λ b. passes_at b c.args.size c.args.d) (sym w.if-half_up.true)
      | else-half_up w ↦ w.passes-is ∙ ap (λ b. passes_at b c.args.size c.args.d) (sym w.if-half_up.false)
    ] in
    nearest_size-less c.args.half_up c.args.size c.args.d c.requires (sym is ∙ c.if-passes.false)
