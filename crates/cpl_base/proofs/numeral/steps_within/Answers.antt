use Rattle.std.proofs.Common.{◌-◌, ◌^◌, ◌≤◌, length, arith}
use Rattle.std.proofs.Math.Nat.{mul-le-mul, pow-le-pow_right}
use Rattle.cpl_base.proofs.numeral.steps_within.Goals as goal

pub overflow_add-size : goal.overflow_add-size
overflow_add-size c =
    let most : 10 ^ c.args.places ≤ 10 ^ 18 = pow-le-pow_right (omega arith) {j = 18} c.requires.places in
    let few : 10 ^ (c.args.places - length c.args.digits.now) ≤ 10 ^ 18 = pow-le-pow_right (omega arith) {j = 18} (omega arith) in
    let units : c.from.result ≤ 2 ^ 64 - 1 = omega arith in
    let digits : c.from-3.result ≤ 2 ^ 64 - 1 = omega arith in
    let scale : c.from-2.result ≤ 10 ^ 18 = omega (arith, most) in
    let rest : c.from-4.result ≤ 10 ^ 18 = omega (arith, few) in
    let whole = mul-le-mul units scale in
    let part = mul-le-mul digits rest in
    omega arith
