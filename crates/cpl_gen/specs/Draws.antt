-- Numbers drawn from a seed.
use Rattle.std.specs.Prelude.{ℕ, ◌+◌, ◌*◌, ◌/◌, ◌%◌, ◌^◌}
use Rattle.cpl_gen.specs.declared.draws.Numbers.{Numbers}

-- the state behind another
abbrev pub next_state : ℕ → ℕ
next_state state = (state * 6364136223846793005 + 1442695040888963407) % 2 ^ 64

-- a number below a count, from a state
abbrev pub drawn : ℕ → ℕ → ℕ
drawn count state = state / 2 ^ 33 % count

-- the numbers that a seed gives, by the four states behind it
abbrev pub numbers_of : ℕ → Numbers
numbers_of seed =
    let first = next_state seed in
    let second = next_state first in
    let third = next_state second in
    let fourth = next_state third in record {
      columns = 64 + drawn 65 first;
      rows = 32 + drawn 33 second;
      hundredths = 1 + drawn 9 fourth;
      seconds = 3600 * (24 + drawn 25 third);
    }
