use Rattle.std.proofs.Common.{rules, ◌≡◌, ◌∙◌, sym, ap, List, Option, replicate, None}
use Rattle.std.specs.Prelude.{ℤ, pos}
use Rattle.cpl_comp.specs.Marks.{CompMarks}
use Rattle.cpl_marks.proofs.StartFacts.{marks-first_comp}
use Rattle.cpl_marks.proofs.marks.first_marks.Goals as goal

pub returns-clause-first : goal.returns-clause-first
returns-clause-first c = λ comp is.
    let made : List (Option ℤ) → CompMarks = λ stamps. record { clock = pos 0; runs = 0; stamps = stamps } in
    let held : c.of.result ≡ replicate c.args.count None = search rules in
    ap made (held ∙ ap (λ n. replicate n None) is) ∙ sym (marks-first_comp comp)
