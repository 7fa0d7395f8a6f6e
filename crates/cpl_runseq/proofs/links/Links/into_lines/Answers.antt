use Rattle.std.proofs.Common.{length, ap, arith}
use Rattle.cpl_runseq.proofs.LinkTableFacts.{count-most}
use Rattle.cpl_runseq.proofs.links.Links.into_lines.Goals as goal

pub returns-clause-few : goal.returns-clause-few
returns-clause-few c =
    let few = count-most c.self.inside.places.items in
    let size = c.self.invariant.size in
    let count = c.self.invariant.count in
    let same = ap length c.of.ensures in
    omega arith
