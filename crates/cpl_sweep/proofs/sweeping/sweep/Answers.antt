use Rattle.std.proofs.Common.{◌*◌, ◌≤◌, arith, length, ◌∙◌, ap}
use Rattle.std.proofs.lemmas.Grind.{div_ceil_times}
use Rattle.cpl_sweep.specs.Places.{value_at, values_over}
use Rattle.cpl_sweep.proofs.StripsFacts.{All-swept, values-swept}
use Rattle.cpl_sweep.proofs.sweeping.sweep.Goals as goal

pub returns-clause-values : goal.returns-clause-values
returns-clause-values c =
    let ceil = c.div_ceil-strip-end.ensures in
    let same = c.loop-strip.auto.these in
    let all : length c.loop-strip.these ≤ 128 * c.loop-strip.strip = omega (arith, div_ceil_times (length c.args.these.now) 128 (omega arith), ceil, c.loop-strip-test.false, same) in
    values-swept (value_at c.args.places.now c.args.fields.now c.args.tree.now) (128 * c.loop-strip.strip) c.loop-strip.these all c.loop-strip.invariant
    ∙ ap (values_over c.args.places.now c.args.fields.now c.args.tree.now) same

pub returns-clause-within : goal.returns-clause-within
returns-clause-within c =
    let ceil = c.div_ceil-strip-end.ensures in
    let same = c.loop-strip.auto.these in
    let all : length c.loop-strip.these ≤ 128 * c.loop-strip.strip = omega (arith, div_ceil_times (length c.args.these.now) 128 (omega arith), ceil, c.loop-strip-test.false, same) in
    All-swept (value_at c.args.places.now c.args.fields.now c.args.tree.now) (128 * c.loop-strip.strip) c.loop-strip.these all c.loop-strip.invariant
