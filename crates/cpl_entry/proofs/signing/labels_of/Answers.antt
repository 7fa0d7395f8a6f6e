use Rattle.std.proofs.Common.{◌≡◌, ◌+◌, false, true, Ok, ap, inr, sym, ◌∙◌, subst, List, ℕ}
use Rattle.cpl_entry.proofs.SigningFacts.{IsSigned, IsSigned-more, IsSigned-none, distinct_labels-none, distinct_labels-seen, first_repeat-none, first_repeat-seen, labels_in-all, missing_if_new, there_if_not_new}
use Rattle.cpl_entry.specs.Kept.{is_there, with_label}
use Rattle.cpl_entry.proofs.signing.labels_of.Goals as goal

pub loop-index-init : goal.loop-index-init
loop-index-init c = IsSigned-none c.args.signs.now c.new-labels.result c.new-labels.ensures

pub returns-then-not-branch : goal.returns-then-not-branch
returns-then-not-branch c =
    let labels = c.loop-index.labels in
    let sign = c.index-signs-index.result in
    let seen : is_there labels sign.label ≡ true =
    ap (is_there labels) (sym c.bytes.ensures) ∙ there_if_not_new c.in_ok-add.field-0 (is_there labels c.bytes.result.now) c.in_ok-add.ensures.added c.if-not-branch.true in
    let first = first_repeat-seen c.args.signs.now c.loop-index.index sign labels c.loop-index.invariant c.loop-index-test.true c.index-signs-index.is seen in
    record { value = tt; fault = inr (distinct_labels-seen c.args.signs.now c.loop-index.index first) }

pub loop-index-preserved : goal.loop-index-preserved
loop-index-preserved c =
    let labels = c.loop-index.labels in
    let sign = c.index-signs-index.result in
    let new : is_there labels sign.label ≡ false =
    ap (is_there labels) (sym c.bytes.ensures) ∙ missing_if_new c.in_ok-add.field-0 (is_there labels c.bytes.result.now) c.in_ok-add.ensures.added c.if-not-branch.false in
    let more = IsSigned-more c.args.signs.now c.loop-index.index sign labels c.loop-index.invariant c.loop-index-test.true c.index-signs-index.is new in
    let same = c.in_ok-add.ensures.labels ∙ ap (with_label labels) c.bytes.ensures in
    subst (λ (found : List (List ℕ)). IsSigned c.args.signs.now (c.loop-index.index + 1) found) (sym same) more

pub returns : goal.returns
returns c =
    let signs = c.args.signs.now in
    let none = first_repeat-none signs c.loop-index.index c.loop-index.labels c.loop-index.invariant c.loop-index-test.false in
    let all = labels_in-all signs c.loop-index.index c.loop-index.labels c.loop-index.invariant c.loop-index-test.false in
    record { value = distinct_labels-none signs none ∙ ap Ok (sym all); fault = tt }
