use Rattle.std.proofs.Common.{◌≡◌, All, length}
use Rattle.cpl_base.specs.Numbers.{IsValue}
use Rattle.bench.proofs.table.table.Given as goal

-- all so far are values, and each turn has added one
abbrev pub invariant-fill : goal.invariant-fill
invariant-fill l = record { values : All IsValue l.values.items; count : length l.values.items ≡ l.counter }
