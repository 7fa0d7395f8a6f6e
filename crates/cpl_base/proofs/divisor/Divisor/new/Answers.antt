use Rattle.std.proofs.Common.{◌≡◌, unsigned_abs, sym, ◌/◌}
use Rattle.std.proofs.lemmas.Int.{to_z-of_z}
use Rattle.cpl_base.proofs.PreparedFacts.{prepared-is, prepared-some}
use Rattle.cpl_base.proofs.divisor.Divisor.new.Goals as goal

pub returns-clause-prepared : goal.returns-clause-prepared
returns-clause-prepared c =
    let fits = c.ranges.divisor in
    let size = c.unsigned_abs-size.result in
    let is : size ≡ unsigned_abs c.args.divisor = simp to_z-of_z at c.unsigned_abs-size.ensures.value in
    let above = simp to_z-of_z at c.if-divisor-le0.false in
    let same = prepared-is c.args.divisor size is above c.if-size-ne0.false in (
      same,
      record {
        thousandths = size / 1000;
        some = prepared-some c.args.divisor size is above c.if-size-ne0.false;
        is = sym same;
        value = c.requires;
      },
    )
