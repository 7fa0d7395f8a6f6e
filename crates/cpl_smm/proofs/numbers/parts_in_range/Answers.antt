use Rattle.std.proofs.Common.{◌≤◌, ◌-◌, ◌^◌, arith, length}
use Rattle.std.proofs.Math.Nat.{mul-le-mul, pow-le-pow_right}
use Rattle.cpl_smm.proofs.numbers.parts_in_range.Goals as goal

pub overflow_mul-part : goal.overflow_mul-part
overflow_mul-part c =
    let count : 10 ^ length c.args.places.now ≤ 10 ^ 9 = pow-le-pow_right (omega arith) {j = 9} c.requires.places in
    let part : c.in_ok-part.part ≤ 1000000000 = omega (arith, count, c.in_ok-part.ensures.below) in
    let most : 10 ^ (9 - length c.args.places.now) ≤ 10 ^ 9 = pow-le-pow_right (omega arith) {j = 9} (omega arith) in
    let scale : c.pow-scale.result ≤ 1000000000 = omega (arith, most) in
    let all = mul-le-mul part scale in
    omega (arith, all)

pub signed_in_range-requires : goal.signed_in_range-requires
signed_in_range-requires c =
    let count : 10 ^ length c.args.places.now ≤ 10 ^ 9 = pow-le-pow_right (omega arith) {j = 9} c.requires.places in
    let part : c.in_ok-part.part ≤ 1000000000 = omega (arith, count, c.in_ok-part.ensures.below) in
    let most : 10 ^ (9 - length c.args.places.now) ≤ 10 ^ 9 = pow-le-pow_right (omega arith) {j = 9} (omega arith) in
    let scale : c.pow-scale.result ≤ 1000000000 = omega (arith, most) in
    let all = mul-le-mul part scale in
    omega (arith, all)
