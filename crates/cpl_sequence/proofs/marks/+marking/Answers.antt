use Rattle.std.proofs.Common.{arith, rules, ap, min, sym, ◌*◌, ◌/◌, ◌∙◌, ◌≡◌}
use Rattle.cpl_sequence.specs.Marks.{body_marks, loop_tally, greatest_count, tally_of}
use Rattle.cpl_sequence.specs.declared.element.Element.TheViews.{the_lemmas}
use Rattle.cpl_sequence.proofs.MarkFacts.{marking_all, tally_of-Loop}
use Rattle.cpl_sequence.proofs.SoundFacts.{inner_at}
use Rattle.cpl_sequence.proofs.TreeFacts.{at_Loop}
use Rattle.cpl_sequence.proofs.marks.+marking.Goals as goal

pub body_marks-returns : goal.body_marks-returns
body_marks-returns t c = marking_all (λ e. tally_of e c.args.step) c.args.body.now c.loop-element.element-index c.loop-element.count c.loop-element.marks (omega arith) c.loop-element.invariant

pub tally_of-body_marks-requires : goal.tally_of-body_marks-requires
tally_of-body_marks-requires t c = (search (rules, the_lemmas), rw c.as_slice.ensures (inner_at c.args.element.now c.in-Loop.inner c.in-Loop.duration c.in-Loop.body c.args.step c.in-Loop.is c.requires).loop.each)

pub tally_of-returns-in_ok-count-in-Loop : goal.tally_of-returns-in_ok-count-in-Loop
tally_of-returns-in_ok-count-in-Loop t c =
    let kept = c.in_ok-count-in-Loop.field-0 in
    let count : c.saturating_mul.result ≡ min ((c.in-Loop.duration / c.in-Loop.inner) * kept.count) greatest_count = c.saturating_mul.ensures in
    (λ j. record { count = count j; round = kept.count; body = kept.marks })
    ∙ ap (loop_tally c.in-Loop.inner c.in-Loop.duration) (c.in_ok-count-in-Loop.ensures ∙ ap (λ body. body_marks body c.in-Loop.inner) c.as_slice.ensures)
    ∙ sym (ap (λ e. tally_of e c.args.step) (at_Loop c.args.element.now c.in-Loop.inner c.in-Loop.duration c.in-Loop.body c.in-Loop.is) ∙ tally_of-Loop c.in-Loop.inner c.in-Loop.duration c.in-Loop.body c.args.step)
