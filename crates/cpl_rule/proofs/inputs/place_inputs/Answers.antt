use Rattle.std.proofs.Common.{◌∙◌, ap, length}
use Rattle.cpl_rule.proofs.InputsFacts.{near-reads, placed-reads}
use Rattle.cpl_rule.proofs.inputs.place_inputs.Goals as goal

pub place_reads-requires-clause-reads : goal.place_reads-requires-clause-reads
place_reads-requires-clause-reads c =
    near-reads c.args.frame.now c.args.fields (length c.args.moment.now.times.alarms.now) c.args.rule.now c.in-Plain.parsed c.items.result.now c.in-Plain.is
    (c.items.ensures ∙ ap (λ parsed. parsed.reads) c.get.ensures) c.requires.rule

pub returns-in-Plain : goal.returns-in-Plain
returns-in-Plain c =
    placed-reads c.args.frame.now c.args.fields c.args.moment.now c.args.rule.now c.in-Plain.parsed c.items.result.now c.place_reads.new.places c.in-Plain.is
    (c.items.ensures ∙ ap (λ parsed. parsed.reads) c.get.ensures) c.place_reads.ensures
