-- A fault of a step that loads nothing, as one of the whole build.
use Rattle.std.specs.Prelude.{Result}
use Rattle.std.specs.Result.{result_map_both}
use Rattle.cpl_build.specs.declared.fault.BuildFault.{BuildFault}
use Rattle.cpl_build.specs.declared.fault.BuildFault.TheVariants as build
use Rattle.cpl_build.specs.declared.fault.Rejection.{Rejection}
use Rattle.cpl_build.specs.declared.fault.Rejection.TheVariants as rejection

-- why there is no system, by why a step gave nothing
abbrev pub build_fault : Rejection → BuildFault
build_fault (rejection.Refused refusal) = build.Refused refusal
build_fault rejection.Memory = build.Memory

-- what a step that loads nothing gives, as what the build gives
abbrev pub in_build : {X : Type 0} → Result X Rejection → Result X BuildFault
in_build answer = result_map_both (λ x. x) build_fault answer
