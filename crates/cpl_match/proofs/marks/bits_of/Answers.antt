use Rattle.std.proofs.Common.{ap, ◌∙◌}
use Rattle.std.proofs.lemmas.List.{take_all}
use Rattle.std.specs.List.{list_any}
use Rattle.cpl_match.specs.Marks.{has_bit}
use Rattle.cpl_match.proofs.BitFacts.{is_set-zero}
use Rattle.cpl_match.proofs.MarkFacts.{list_any-name}
use Rattle.cpl_match.proofs.marks.bits_of.Goals as goal

pub returns : goal.returns
returns c = λ bit. c.loop-name.invariant bit ∙ ap (list_any (λ name. has_bit c.args.own.now name bit)) (take_all c.loop-name.name-index c.args.names.now c.loop-name-test.false)

pub loop-name-init : goal.loop-name-init
loop-name-init c = λ bit. is_set-zero bit

pub loop-name-preserved : goal.loop-name-preserved
loop-name-preserved c = λ bit.
    list_any-name c.args.own.now c.args.names.now c.loop-name.name-index bit c.loop-name.bits c.either-bits.result c.loop-name-test.true (c.loop-name.invariant bit) (c.either-bits.ensures bit)
