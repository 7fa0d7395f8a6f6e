use Rattle.std.proofs.Common.{length, rules, w64}
use Rattle.std.proofs.lemmas.Int.{to_z-of_z}
use mir.Val.{SFits}
use Rattle.cpl_entry.proofs.ViewsFacts.{IsValue-formula, inputs_at-entry}
use Rattle.cpl_entry.proofs.book.EntryBook.call.Goals as goal

pub returns-clause-within : goal.returns-clause-within
returns-clause-within g c =
    let entry = c.index.result.now in
    let counted = inputs_at-entry c.args.self.now.entries.items c.args.entry entry (length c.args.inputs.now) c.requires.inputs c.index.ensures in
    let within = IsValue-formula c.args.inputs.now entry.inputs entry.formula c.call.result c.requires.values counted entry.over c.call.ensures in
    let fits : SFits w64 c.call.result = search rules in
    rw (to_z-of_z w64 c.call.result fits) within
