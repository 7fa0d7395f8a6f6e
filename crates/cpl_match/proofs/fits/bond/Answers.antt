use Rattle.std.proofs.Common.{sym, ◌∙◌, ap, cond}
use Rattle.cpl_match.proofs.MarkFacts.{bond_of-other, bond_of-same, number_of-below}
use Rattle.cpl_match.proofs.fits.bond.Goals as goal

pub returns-then-other-own : goal.returns-then-other-own
returns-then-other-own c =
    sym (bond_of-same c.args.dict.now c.args.port.now.standard c.args.import.port.now.standard c.in-Some-Some.other c.in-Some-Some.own c.number_laws.ensures
    (sym c.requires.number ∙ c.in-Some-Some.is-0) (sym c.requires.sought.number ∙ c.in-Some-Some.is-1) c.if-other-own.true)

pub returns-then-has_bit : goal.returns-then-has_bit
returns-then-has_bit c =
    let is = sym c.requires.number ∙ c.in-Some-Some.is-0 in
    let inside = number_of-below c.args.dict.now c.args.port.now.standard c.in-Some-Some.other is in
    sym (bond_of-other c.args.dict.now c.args.port.now.standard c.args.import.port.now.standard c.in-Some-Some.other c.in-Some-Some.own c.has_bit.result c.number_laws.ensures
    is (sym c.requires.sought.number ∙ c.in-Some-Some.is-1) c.if-other-own.false
    (c.has_bit.ensures ∙ c.requires.sought.marked c.in-Some-Some.other c.in-Some-Some.own inside c.in-Some-Some.is-1) ∙ ap (λ b. cond b 1 0) c.if-has_bit.true)

pub returns-else-has_bit : goal.returns-else-has_bit
returns-else-has_bit c =
    let is = sym c.requires.number ∙ c.in-Some-Some.is-0 in
    let inside = number_of-below c.args.dict.now c.args.port.now.standard c.in-Some-Some.other is in
    sym (bond_of-other c.args.dict.now c.args.port.now.standard c.args.import.port.now.standard c.in-Some-Some.other c.in-Some-Some.own c.has_bit.result c.number_laws.ensures
    is (sym c.requires.sought.number ∙ c.in-Some-Some.is-1) c.if-other-own.false
    (c.has_bit.ensures ∙ c.requires.sought.marked c.in-Some-Some.other c.in-Some-Some.own inside c.in-Some-Some.is-1) ∙ ap (λ b. cond b 1 0) c.if-has_bit.false)
