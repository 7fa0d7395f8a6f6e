use Rattle.std.proofs.Common.{◌≡◌, subst, take}
use Rattle.std.specs.Int.{w64}
use Rattle.std.proofs.lemmas.Int.{to_z-of_z}
use Rattle.std.specs.Prelude.{ℤ}
use Rattle.cpl_comp.specs.Marks.{stamps_at}
use Rattle.cpl_marks.proofs.ListFacts.{stamps-next}
use Rattle.cpl_marks.proofs.stamping.stamp.Goals as goal

pub loop-number-preserved : goal.loop-number-preserved
loop-number-preserved c =
    let P : ℤ → Type 0 = λ time. c.loop-number.stamps ≡ stamps_at time c.args.stamps.now (take c.loop-number.number c.args.places.now) in
    let same = to_z-of_z w64 c.args.time c.ranges.time in
    rw same (stamps-next c.args.time c.args.stamps.now c.loop-number.stamps c.args.places.now c.loop-number.number 0 c.loop-number-test.true (subst P same c.loop-number.invariant))
