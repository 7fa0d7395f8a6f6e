use Rattle.std.proofs.Common.{refl, sym, ◌∙◌, subst}
use Rattle.std.specs.Result.{IsOk}
use Rattle.cpl_head.specs.Times.{first_of_2000}
use Rattle.cpl_head.proofs.TimesFacts.{first_of_2000-Spells, first_of_2000-moment}
use Rattle.cpl_head.proofs.times.default_start.Goals as goal

-- each calendar has the time that the text spells
pub unwrap-requires : goal.unwrap-requires
unwrap-requires c =
    let is = c.moment.ensures.form first_of_2000 first_of_2000-Spells ∙ first_of_2000-moment c.args.cal in
    subst IsOk (sym is) refl
