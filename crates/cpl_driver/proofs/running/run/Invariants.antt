use Rattle.std.proofs.Common.{◌≡◌, ◌*◌, [], ◌∷◌, length, vec_len}
use Rattle.cpl_base.specs.Numbers.{IsValue}
use Rattle.cpl_driver.specs.Runs.{world_after}
use Rattle.cpl_driver.proofs.RunsFacts.{done}
use Rattle.cpl_driver.proofs.running.run.Given as goal

-- the world after the runs so far
abbrev pub invariant-loop-run : goal.invariant-loop-run
invariant-loop-run l =
    record {
      room : vec_len l.inputs ≡ length l.system.rule.reads;
      within : IsValue l.cell;
      clock : l.clock ≡ l._run * l.step;
      world : world_after l.system (done l.system l._run) ≡ record { clock = l.clock; runs = l._run; cells = l.cell ∷ [] };
    }
