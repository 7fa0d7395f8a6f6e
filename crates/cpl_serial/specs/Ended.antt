-- What single components come to.
use Rattle.std.specs.Prelude.{ℕ, pos, [], map}
use Rattle.cpl_comp.specs.Worlds.{CompWorld}
use Rattle.cpl_comp.specs.declared.component.Comp.{Comp}
use Rattle.cpl_script.specs.SerialRun.{field_end}
use Rattle.cpl_script.specs.declared.outcome.CompEnd.{CompEnd}

-- the end of a component
abbrev pub world_end : Comp → CompWorld → CompEnd
world_end comp world = record { runs = world.runs; clock = world.clock; fields = map (field_end comp.decomp) world.fields }

-- a component of which so many runs had ended before a fault
abbrev pub stop_after : ℕ → CompEnd
stop_after runs = record { runs = runs; clock = pos 0; fields = [] }
