use Rattle.std.proofs.Common.{◌≡◌, ◌∙◌, ap, eqb, false, sym}
use Rattle.std.specs.List.{list_any}
use Rattle.cpl_block.specs.Frames.{is_ours, stands_for}
use Rattle.cpl_block.proofs.AimFacts.{aimed-is, aimed-none, far-is}
use Rattle.cpl_block.proofs.aim.note.Goals as goal

pub returns-in_default : goal.returns-in_default
returns-in_default c =
    let frame = c.args.frame.now in
    let cells = c.args.cells.now in
    let cell = c.stands_for-cell.ensures.value in
    let strange : is_ours frame (stands_for frame c.args.place) ≡ false = ap (is_ours frame) (sym cell) ∙ sym c.is_ours.ensures ∙ c.if-is_ours.false in
    let far = far-is frame c.args.place (sym c.is_own.ensures ∙ c.if-is_own.false) strange in
    aimed-none frame cells c.args.place c.args.aim.now (aimed-is frame cells c.args.place false far (ap (λ t. list_any (λ s. eqb s t) cells) (sym cell) ∙ c.in_default.ensures.none))
