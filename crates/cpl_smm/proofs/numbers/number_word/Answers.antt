use Rattle.std.proofs.Common.{◌≡◌, ◌≤◌, ◌+◌, ◌-◌, ◌*◌, ℕ, arith, get_or, refl, subst, sym}
use Rattle.cpl_smm.proofs.NumberFacts.{IsNumberOf, IsNumberOf-next, below-next}
use Rattle.cpl_smm.proofs.numbers.number_word.Goals as goal

pub overflow_mul-number : goal.overflow_mul-number
overflow_mul-number c = let below = below-next c.loop-byte.byte-index c.loop-byte.number c.loop-byte.invariant.below (omega arith) in omega (arith, below)

pub overflow_add-number : goal.overflow_add-number
overflow_add-number c = let below = below-next c.loop-byte.byte-index c.loop-byte.number c.loop-byte.invariant.below (omega arith) in omega (arith, below)

pub loop-byte-preserved : goal.loop-byte-preserved
loop-byte-preserved c =
    let byte = get_or c.args.word.now c.loop-byte.byte-index 0 in
    let low : 48 ≤ byte = omega arith in
    let high : byte ≤ 57 = omega arith in
    let next = IsNumberOf-next c.args.word.now c.loop-byte.byte-index c.loop-byte.number byte c.loop-byte-test.true refl low high c.loop-byte.invariant in
    let digit : c.from.result ≡ byte - 48 = omega arith in
    let P : ℕ → Type 0 = λ digit. IsNumberOf c.args.word.now (c.loop-byte.byte-index + 1) (c.loop-byte.number * 10 + digit) in
    subst P (sym digit) next
