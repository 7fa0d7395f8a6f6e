-- The system that a file makes with its further files, or why there is none.
use Rattle.std.specs.Prelude.{ℕ, ◌^◌, Bool, not, ◌||◌, nat_le, List, [], ◌∷◌, Option, Result, Ok}
use Rattle.cpl_base.specs.Outside.{Files}
use Rattle.cpl_base.specs.ResultChain.{◌>>=◌, ok_if}
use Rattle.cpl_build.specs.Faults.{in_build}
use Rattle.cpl_build.specs.Outlines.{outline_of}
use Rattle.cpl_build.specs.Refusals.{refused_by, system_refusal, trace_too_long}
use Rattle.cpl_build.specs.WeightFiles.{asked_behind, file_bytes, files_asked_with, weights_with}
use Rattle.cpl_build.specs.declared.fault.BuildFault.{BuildFault}
use Rattle.cpl_build.specs.declared.fault.Rejection.{Rejection}
use Rattle.cpl_build.specs.declared.outline.Outline.{Outline}
use Rattle.cpl_formula.specs.declared.formula.EntrySign.{EntrySign}
use Rattle.cpl_script.specs.Couplings.{Coupling}
use Rattle.cpl_script.specs.Systems.{capped}
use Rattle.cpl_script.specs.Systems as systems
use Rattle.cpl_script.specs.TraceLengths.{trace_length}
use Rattle.cpl_script.specs.declared.parts.SystemParts.{SystemParts}
use Rattle.cpl_smm.specs.Rows.{Table}

-- ---- the system

-- the parts of a system that an outline and the weights of its connectors are
abbrev pub parts_of : Outline → List (Option Table) → SystemParts
parts_of outline weights = record {
  comps = outline.comps;
  seq = outline.seq;
  pairs = outline.pairs;
  init = outline.init;
  weights = weights;
  cal = outline.cal;
  start = outline.start;
  alarms = outline.alarms;
  pets = outline.pets;
}

-- the system of an outline with these weights, if it isn't too large
abbrev pub sized_system : Outline → List (Option Table) → Result Coupling Rejection
sized_system outline weights = refused_by system_refusal (systems.system_of (parts_of outline weights))

-- where a trace is asked for, it has at most 2^18 rows
abbrev pub trace_check : Bool → Coupling → Result (Unit {0}) Rejection
trace_check trace coupling =
    ok_if (not trace || nat_le (trace_length coupling) (2 ^ 18)) (trace_too_long (capped (trace_length coupling)))

-- the same system, if its trace isn't too long either
unfoldable pub traced_system : Outline → List (Option Table) → Bool → Result Coupling Rejection
traced_system outline weights trace =
    sized_system outline weights >>= (λ coupling.
    trace_check trace coupling >>= (λ _.
    Ok coupling))

-- the system of a text, with further files, native entries, and a trace where one is asked for
unfoldable pub system_in : Files → List EntrySign → Bool → List ℕ → Result Coupling BuildFault
system_in files signs trace bytes =
    in_build (outline_of signs bytes) >>= (λ outline.
    weights_with files outline.comps [] outline.seq.links >>= (λ weights.
    in_build (traced_system outline weights trace)))

-- a resource file has at most so many bytes: 4 MiB
abbrev pub most_bytes : ℕ
most_bytes = 4194304

-- the system of the file of a name
unfoldable pub system_of : Files → List EntrySign → Bool → List ℕ → Result Coupling BuildFault
system_of files signs trace name = file_bytes files name most_bytes >>= (λ bytes. system_in files signs trace bytes)

-- ---- the files that are asked for

-- the further files that a text asks for
abbrev pub files_asked_in : Files → List EntrySign → List ℕ → List (List ℕ)
files_asked_in files signs bytes =
    asked_behind (in_build (outline_of signs bytes)) (λ outline. files_asked_with files outline.comps [] outline.seq.links)

-- all files that the file of a name asks for, and itself
abbrev pub files_asked : Files → List EntrySign → List ℕ → List (List ℕ)
files_asked files signs name =
    name ∷ asked_behind (file_bytes files name most_bytes) (λ bytes. files_asked_in files signs bytes)
