use Rattle.std.proofs.Common.{arith, ap, ◌∙◌, List}
use Rattle.cpl_sequence.specs.declared.link_line.LinkLine.{LinkLine}
use Rattle.cpl_runseq.specs.Links.{link_at}
use Rattle.cpl_runseq.proofs.LinkTableFacts.{count-most, indexed_more}
use Rattle.cpl_runseq.proofs.links.Links.add.Goals as goal

pub overflow_cast-place : goal.overflow_cast-place
overflow_cast-place c =
    let few = count-most c.self.inside.places.items in
    let lines = c.self.inside.lines in
    grind (arith, c.self.invariant.count, c.self.invariant.size)

pub invariant_of-self-2 : goal.invariant_of-self-2
invariant_of-self-2 c =
    let fresh = ap (λ (links : List LinkLine). link_at c.args.line.src c.args.line.dst links) c.self.view_is ∙ c.requires.fresh in
    indexed_more c.self.inside.lines.items c.push.new.self.items c.self.inside.places.items c.args.line c.len-place.result c.in_ok-push.ensures.items (grind arith) c.self.invariant c.requires.source c.requires.destination fresh
