-- What a cursor over the operations of a system has still to give.
use Rattle.std.specs.Prelude.{◌≡◌, ℕ, List, ◌++◌, drop}
use Rattle.cpl_sequence.specs.Remainder.{IsCursorOf, Spot, remainder}
use Rattle.cpl_sequence.specs.declared.op.Op.{Op}
use Rattle.cpl_script.specs.Couplings.{Coupling}
use Rattle.cpl_script.specs.Operations.{init_ops, ops_of}

-- What contracts see of a cursor: how many operations of the initialisation it gave, and where it stands in the run
-- sequence.
pub record OpSpot : Type 0 where
  pub place : ℕ
  pub spot : Spot

-- the operations that a cursor has still to give, in their order
abbrev pub op_remainder : Coupling → OpSpot → List Op
op_remainder coupling at =
    drop at.place (init_ops coupling.comps coupling.links coupling.init) ++ remainder coupling.sequence at.spot

-- A cursor is one of a system: it has still to give the operations of the system behind those that it gave.
pub record IsOpCursorOf (coupling : Coupling) (at : OpSpot) : Type 0 where
  pub run : IsCursorOf coupling.sequence at.spot
  pub given : ℕ
  pub rest : op_remainder coupling at ≡ drop given (ops_of coupling)
