use Rattle.std.proofs.Common.{rules}
use Rattle.cpl_sequence.specs.declared.element.Element.TheViews.{the_lemmas}
use Rattle.cpl_sequence.proofs.SoundFacts.{inner_at}
use Rattle.cpl_sequence.proofs.run_ends.+ending.Goals as goal

pub element_ends-body_ends-count-requires : goal.element_ends-body_ends-count-requires
element_ends-body_ends-count-requires t c =
    (search (rules, the_lemmas), rw c.as_slice.ensures (inner_at c.args.element.now c.in-Loop.inner c.in-Loop.duration c.in-Loop.body c.args.step c.in-Loop.is c.requires).loop.each)
