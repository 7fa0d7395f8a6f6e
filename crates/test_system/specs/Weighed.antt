-- Weights of a connector, where it doesn't redistribute.
use Rattle.std.specs.Prelude.{◌≡◌, ◌≤◌, ◌<◌, ℕ, true, List, length, Option, None, IfSome}
use Rattle.std.specs.List.{All}
use Rattle.cpl_comp.specs.Components.{IsComponent}
use Rattle.cpl_comp.specs.declared.component.Comp.{Comp}
use Rattle.cpl_sequence.specs.declared.link_line.LinkLine.{LinkLine}
use Rattle.cpl_smm.specs.Rows.{Table}
use Rattle.cpl_script.specs.Matched.{is_redist}
use Rattle.cpl_script.specs.Sound.{IsBetween}

-- None where it redistributes, some where it doesn't, and between its components.
pub record IsWeighed (comps : List Comp) (given : LinkLine × Option Table) : Type 0 where
  pub redist : is_redist given.0.method ≡ true → given.1 ≡ None
  pub needed : given.1 ≡ None → is_redist given.0.method ≡ true
  pub between : IfSome given.1 (IsBetween comps given.0.src given.0.dst)

-- Components over so many PETs, without alarms and entries.
pub record AreRead (pets : ℕ) (comps : List Comp) : Type 0 where
  pub some : 1 ≤ length comps
  pub few : length comps ≤ 32
  pub some_pets : 1 ≤ pets
  pub few_pets : pets ≤ 64
  pub each : All (IsComponent (record { pets = pets; alarms = 0; inputs = Rattle.std.specs.Prelude.[] })) comps
