use Rattle.std.proofs.Common.{◌≡◌, arith, pos, to_z-of_z, FitsSigned, w64}
use Rattle.std.proofs.lemmas.Int.{ints}
use Rattle.cpl_calendar.specs.Calendar.{moment_of}
use Rattle.cpl_calendar.specs.Parts.{parts_at}
use Rattle.cpl_calendar.proofs.DateOrder.{IsTime-unique}
use Rattle.cpl_calendar.proofs.PartsFacts.{parts_at-IsTimeAt}
use Rattle.cpl_calendar.proofs.moments.parts.Goals as goal

pub returns : goal.returns
returns c =
    let cal = c.args.cal in
    let moment = c.args.moment in
    let p = c.parts_after.result in
    let fits : FitsSigned w64 moment = c.ranges.moment in
    let found = simp to_z-of_z at c.parts_after.ensures in
    let value : pos (moment_of cal p) ≡ moment = omega (arith, ints, found.moment_is) in
    let numbers = parts_at-IsTimeAt cal moment c.requires in
    let begun = c.requires.begun in
    let value_too : pos (moment_of cal (parts_at cal moment)) ≡ moment = omega (arith, ints, numbers.moment_is) in
    record {
      time = found.is_time;
      value = value;
      numbers = IsTime-unique cal p (parts_at cal moment) moment found.is_time numbers.is_time value value_too;
      unique = λ q time same. IsTime-unique cal q p moment time found.is_time same value;
    }
