-- What a run leaves, against the serial reading.
use Rattle.std.specs.Prelude.{◌≡◌, ℕ, List, [], ◌∷◌, length}
use Rattle.cpl_driver.specs.Answers.{report}
use Rattle.cpl_driver.specs.Runs.{operations, final_world}
use Rattle.cpl_driver.specs.declared.running.Ending.{Ending}
use Rattle.cpl_driver.specs.declared.system.System.{System}

-- the ending is that of the system's serial run
pub record IsEnding (system : System) (ending : Ending) : Type 0 where
  pub count : ending.operations ≡ length (operations system)
  pub runs : ending.runs ≡ (final_world system).runs
  pub clock : ending.clock ≡ (final_world system).clock
  pub cells : (final_world system).cells ≡ ending.value ∷ []

-- the report on what a run left
abbrev pub ending_text : System → Ending → List ℕ
ending_text system ending = report system ending.operations (record { clock = ending.clock; runs = ending.runs; cells = ending.value ∷ [] })
