use Rattle.std.proofs.Common.{◌∙◌, rules, w64}
use Rattle.std.proofs.lemmas.Int.{to_z-of_z}
use Rattle.cpl_entry.specs.Books.{entries_of}
use Rattle.cpl_rule.proofs.AssignedFacts.{answer-of}
use Rattle.cpl_rule.proofs.calling.call.Goals as goal
use mir.Val.{SFits}
use Rattle.std.proofs.Common.{sym}

pub returns-clause-value : goal.returns-clause-value
returns-clause-value g c =
    let fits : SFits w64 c.call.result = search rules in
    to_z-of_z w64 c.call.result fits
    ∙ sym (answer-of (entries_of c.args.book.now) c.args.entry c.args.inputs.now c.call.result c.call.ensures.value)
