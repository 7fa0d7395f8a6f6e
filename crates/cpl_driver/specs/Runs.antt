-- The serial reading of a run sequence: its operations in order, and the world after each.
use Rattle.std.specs.Prelude.{ℕ, ℤ, pos, ◌+◌, ◌*◌, ◌/◌, List, [], ◌∷◌, map, fold}
use Rattle.std.specs.List.{range_with_len}
use Rattle.cpl_formula.specs.declared.formula.Read.{Read}
use Rattle.cpl_formula.specs.Tree.{value_of}
use Rattle.cpl_driver.specs.declared.system.Loop.{Loop}
use Rattle.cpl_driver.specs.declared.system.System.{System}

-- the initialisation of the component, or a run of its phase at a time, in seconds after the start
pub data Operation : Type 0 where
  initialise : Operation
  run_at : ℕ → Operation

-- the times of the iterations of a loop that begins at a time
abbrev pub iterations : Loop → ℕ → List ℕ
iterations loop begin = map (λ n. begin + n * loop.step) (range_with_len 0 (loop.duration / loop.step))

-- the operations of a system: those of the initialisation, then those of the run sequence
abbrev pub operations : System → List Operation
operations system = initialise ∷ map run_at (iterations system.sequence 0)

-- what is kept between operations: the component's clock and how often it ran, and its variable at
-- each cell
pub record World : Type 0 where
  pub clock : ℕ
  pub runs : ℕ
  pub cells : List ℤ

-- the world before the first operation, on one cell
abbrev pub first_world : World
first_world = record { clock = 0; runs = 0; cells = pos 0 ∷ [] }

-- what a read of the rule finds at a cell, where the variable has this value: there is no other field
abbrev pub read_value : ℤ → Read → ℤ
read_value value read = value

-- the value of the phase's rule at a cell
abbrev pub rule_value : System → ℤ → ℤ
rule_value system value = value_of (map (read_value value) system.rule.reads) system.rule.tree

-- What an operation makes of the world. A run reads the world as it was; after it the clock has gone
-- on by the step.
abbrev pub world_after_operation : System → World → Operation → World
world_after_operation system world initialise = record world { cells = map (λ _. system.start) world.cells }
world_after_operation system world (run_at time) =
    record { clock = time + system.sequence.step; runs = world.runs + 1; cells = map (rule_value system) world.cells }

-- the world after some operations
abbrev pub world_after : System → List Operation → World
world_after system done = fold (world_after_operation system) first_world done

-- the world after all operations
unfoldable pub final_world : System → World
final_world system = world_after system (operations system)
