use Rattle.std.proofs.Common.{◌≡◌, length, vec_len}
use Rattle.std.specs.List.{All}
use Rattle.cpl_base.specs.Numbers.{IsValue}
use Rattle.test_formula.proofs.caller.value_over.Given as goal

-- as many inputs as reads, each of them a value
abbrev pub invariant-loop-place : goal.invariant-loop-place
invariant-loop-place l =
    record {
      room : vec_len l.inputs ≡ length l.reads;
      values : All IsValue l.inputs.items;
    }
