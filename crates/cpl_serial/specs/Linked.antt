-- How far an operation of a connector has come.
use Rattle.std.specs.Prelude.{ℕ, Bool, List, fold}
use Rattle.std.specs.List.{All}
use Rattle.cpl_phase.specs.Locals.{IsAged}
use Rattle.cpl_phase.specs.declared.local.LocalComp.{LocalComp}
use Rattle.cpl_script.specs.Couplings.{Coupling}
use Rattle.cpl_script.specs.Transfers.{World, carried}
use Rattle.cpl_script.specs.declared.link.Link.{Link}
use Rattle.cpl_serial.specs.Engines.{AreWhole, StandEach, StandForWorld}
use Rattle.cpl_serial.specs.Passed.{pairs_passed}

-- The first j pairs of a connector were carried, as far as the operation carries them.
pub record IsLinked (coupling : Coupling) (link : Link) (at_init : Bool) (j : ℕ) (first now : List LocalComp) : Type 0 where
  pub whole : AreWhole coupling now
  pub aged : (done : ℕ) → All (IsAged done) first → All (IsAged done) now
  pub after : (world : World) → StandForWorld coupling world first
      → StandEach coupling (fold (carried coupling.comps link world) world (pairs_passed coupling.comps link at_init j)) now
