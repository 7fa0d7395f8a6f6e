use Rattle.std.proofs.Common.{◌≡◌, ◌∙◌, ap, FitsSigned, w64, to_z-of_z, arith, rules, ◌+ℤ◌}
use Rattle.std.proofs.lemmas.Int.{ints}
use Rattle.cpl_calendar.proofs.Months.{all_days_le}
use Rattle.cpl_clock.specs.Alarm.{is_month_begin, is_ringing}
use Rattle.cpl_clock.proofs.AlarmFacts.{is_ringing-Rings}
use Rattle.cpl_clock.proofs.alarm.Alarm.rings_at.Goals as goal

pub overflow_add-start : goal.overflow_add-start
overflow_add-start c =
    let start = c.ranges.start in
    let seconds = c.ranges.seconds in
    let end = c.requires.within.not_over in
    let begun = c.requires.within.begun in
    rw (to_z-of_z start, to_z-of_z seconds) (omega (arith, ints, all_days_le c.args.cal))

pub parts-requires : goal.parts-requires
parts-requires c =
    let start = c.ranges.start in
    let seconds = c.ranges.seconds in
    let end = c.requires.within.not_over in
    let begun = c.requires.within.begun in
    let sum : FitsSigned w64 (c.args.start +ℤ c.args.seconds) = omega (arith, ints, all_days_le c.args.cal) in
    rw (to_z-of_z start, to_z-of_z seconds, to_z-of_z sum) c.requires.within

pub returns-in-Every : goal.returns-in-Every
returns-in-Every c =
    let first : FitsSigned w64 c.in-Every.first = search rules in
    let interval : FitsSigned w64 c.in-Every.interval = search rules in
    let seconds = c.ranges.seconds in
    let told = simp to_z-of_z at c.is_ringing_every.ensures in
    let value : c.is_ringing_every.result ≡ is_ringing c.args.self.now c.args.cal c.args.start c.args.seconds = rw c.in-Every.is told in
    record {
      rings = rw value (is_ringing-Rings c.args.self.now c.args.cal c.args.start c.args.seconds c.requires.regular c.requires.seconds_low c.requires.within);
      value = value;
    }

pub returns-in-Monthly : goal.returns-in-Monthly
returns-in-Monthly c =
    let start = c.ranges.start in
    let seconds = c.ranges.seconds in
    let end = c.requires.within.not_over in
    let begun = c.requires.within.begun in
    let sum : FitsSigned w64 (c.args.start +ℤ c.args.seconds) = omega (arith, ints, all_days_le c.args.cal) in
    let numbers = rw (to_z-of_z start, to_z-of_z seconds, to_z-of_z sum) at c.parts.ensures.numbers in
    let value : c.is_month_begin.result ≡ is_ringing c.args.self.now c.args.cal c.args.start c.args.seconds = rw c.in-Monthly.is (c.is_month_begin.ensures ∙ ap is_month_begin numbers) in
    record {
      rings = rw value (is_ringing-Rings c.args.self.now c.args.cal c.args.start c.args.seconds c.requires.regular c.requires.seconds_low c.requires.within);
      value = value;
    }
