-- A configuration as a text: its lines, in each of which words and numbers follow one another, and each ended by LF.
use Rattle.std.specs.Prelude.{ℕ, List, [], ◌∷◌, ◌++◌, codes, decimal}
use Rattle.cpl_gen.specs.Draws.{numbers_of}
use Rattle.cpl_gen.specs.declared.draws.Numbers.{Numbers}

-- a line: its pieces, one behind the other
abbrev pub Line : Type 0
Line = List (List ℕ)

-- the grid of a component
abbrev pub grid_line : List ℕ → Numbers → Line
grid_line component numbers =
    component ∷ codes "_grid: " ∷ decimal numbers.columns ∷ codes " " ∷ decimal numbers.rows ∷ codes " periodic" ∷ []

-- the components and the dictionary
abbrev pub heading : List Line
heading =
    (codes "EARTH_component_list: MED ATM OCN LND" ∷ []) ∷
    (codes "dictionary::" ∷ []) ∷
    (codes "temperature degC" ∷ []) ∷
    (codes "heat_flux W/m2" ∷ []) ∷
    (codes "mean_heat_flux W/m2" ∷ []) ∷
    (codes "wetness 1" ∷ []) ∷
    (codes "::" ∷ []) ∷
    []

-- the mediator
abbrev pub mediator : Numbers → List Line
mediator numbers =
    (codes "MED_kind: mediator" ∷ []) ∷
    (codes "MED_petlist_bounds: 0 7" ∷ []) ∷
    grid_line (codes "MED") numbers ∷
    (codes "MED_decomp: 4 2" ∷ []) ∷
    (codes "MED_vars::" ∷ []) ∷
    (codes "mix = 0" ∷ []) ∷
    (codes "::" ∷ []) ∷
    (codes "MED_import::" ∷ []) ∷
    (codes "a_flux heat_flux W/m2 check=next" ∷ []) ∷
    (codes "l_wet wetness 1 check=next" ∷ []) ∷
    (codes "o_temp temperature degC check=none init" ∷ []) ∷
    (codes "::" ∷ []) ∷
    (codes "MED_export::" ∷ []) ∷
    (codes "temp temperature degC = o_temp" ∷ []) ∷
    (codes "heat mean_heat_flux W/m2 = 0" ∷ []) ∷
    (codes "::" ∷ []) ∷
    (codes "MED_phases: prep accum mean" ∷ []) ∷
    (codes "MED_phase_prep::" ∷ []) ∷
    (codes "temp = o_temp" ∷ []) ∷
    (codes "::" ∷ []) ∷
    (codes "MED_phase_accum::" ∷ []) ∷
    (codes "add heat = a_flux" ∷ []) ∷
    (codes "merge mix = a_flux l_wet" ∷ []) ∷
    (codes "::" ∷ []) ∷
    (codes "MED_phase_mean::" ∷ []) ∷
    (codes "average heat" ∷ []) ∷
    (codes "::" ∷ []) ∷
    []

-- the atmosphere
abbrev pub atmosphere : Numbers → List Line
atmosphere numbers =
    (codes "ATM_petlist_bounds: 0 3" ∷ []) ∷
    grid_line (codes "ATM") numbers ∷
    (codes "ATM_decomp: 2 2" ∷ []) ∷
    (codes "ATM_import::" ∷ []) ∷
    (codes "temp temperature degC" ∷ []) ∷
    (codes "::" ∷ []) ∷
    (codes "ATM_export::" ∷ []) ∷
    (codes "flux heat_flux W/m2 = i - j" ∷ []) ∷
    (codes "::" ∷ []) ∷
    (codes "ATM_phase_run::" ∷ []) ∷
    (codes "flux = flux + 0.0" ∷ decimal numbers.hundredths ∷ codes " * (flux[1,0] + flux[-1,0] + flux[0,1] + flux[0,-1] - 4 * flux) - temp / 100" ∷ []) ∷
    (codes "::" ∷ []) ∷
    []

-- the ocean
abbrev pub ocean : Numbers → List Line
ocean numbers =
    (codes "OCN_petlist_bounds: 4 7" ∷ []) ∷
    grid_line (codes "OCN") numbers ∷
    (codes "OCN_import::" ∷ []) ∷
    (codes "heat mean_heat_flux W/m2" ∷ []) ∷
    (codes "::" ∷ []) ∷
    (codes "OCN_export::" ∷ []) ∷
    (codes "temp temperature degC = 15 - abs(j - ny / 2)" ∷ []) ∷
    (codes "::" ∷ []) ∷
    (codes "OCN_phase_run::" ∷ []) ∷
    (codes "temp = temp + heat / 1000" ∷ []) ∷
    (codes "::" ∷ []) ∷
    []

-- the land
abbrev pub land : Numbers → List Line
land numbers =
    (codes "LND_petlist_bounds: 2 5" ∷ []) ∷
    grid_line (codes "LND") numbers ∷
    (codes "LND_decomp: 1 4" ∷ []) ∷
    (codes "LND_import::" ∷ []) ∷
    (codes "temp temperature degC" ∷ []) ∷
    (codes "::" ∷ []) ∷
    (codes "LND_export::" ∷ []) ∷
    (codes "wet wetness 1 = 0.5" ∷ []) ∷
    (codes "::" ∷ []) ∷
    (codes "LND_phase_run::" ∷ []) ∷
    (codes "wet = min(1, max(0, wet + (temp - 5) / 1000))" ∷ []) ∷
    (codes "::" ∷ []) ∷
    []

-- the run sequence: a loop of coupling steps with a loop of halves in it
abbrev pub run_sequence : Numbers → List Line
run_sequence numbers =
    (codes "runSeq::" ∷ []) ∷
    (codes "@3600:" ∷ decimal numbers.seconds ∷ []) ∷
    (codes "@1800" ∷ []) ∷
    (codes "MED prep" ∷ []) ∷
    (codes "MED -> ATM" ∷ []) ∷
    (codes "MED -> LND" ∷ []) ∷
    (codes "ATM" ∷ []) ∷
    (codes "LND" ∷ []) ∷
    (codes "ATM -> MED" ∷ []) ∷
    (codes "LND -> MED" ∷ []) ∷
    (codes "MED accum" ∷ []) ∷
    (codes "@" ∷ []) ∷
    (codes "MED mean" ∷ []) ∷
    (codes "MED -> OCN" ∷ []) ∷
    (codes "OCN" ∷ []) ∷
    (codes "OCN -> MED" ∷ []) ∷
    (codes "@" ∷ []) ∷
    (codes "::" ∷ []) ∷
    []

-- all lines, with these numbers
abbrev pub config_lines : Numbers → List Line
config_lines numbers = heading ++ mediator numbers ++ atmosphere numbers ++ ocean numbers ++ land numbers ++ run_sequence numbers

-- the pieces of a line in front of a text
abbrev pub before_text : Line → List ℕ → List ℕ
before_text [] text = text
before_text (piece ∷ pieces) text = piece ++ before_text pieces text

-- lines, each ended by LF
abbrev pub text_of : List Line → List ℕ
text_of [] = []
text_of (line ∷ lines) = before_text line (10 ∷ text_of lines)

-- the configuration of a seed
abbrev pub config_of : ℕ → List ℕ
config_of seed = text_of (config_lines (numbers_of seed))
