-- The definitions of a run, evaluated on examples.
use Rattle.std.specs.Prelude.{◌≡◌, ℕ, zero, suc, ℤ, pos, List, [], ◌∷◌, ◌++◌, codes, Some, None}
use Rattle.cpl_base.specs.Outside.{Files}
use Rattle.cpl_formula.specs.declared.formula.Formula.{Formula, roll-Formula}
use Rattle.cpl_formula.specs.declared.formula.Formula.TheOpen.{Number, Input, Plus}
use Rattle.cpl_formula.specs.declared.formula.Parsed.{Parsed}
use Rattle.cpl_formula.specs.declared.formula.ReadName.TheVariants.{Field}
use Rattle.cpl_driver.specs.Answers.{Reply, answer, not_yet_built_line, usage_line}
use Rattle.cpl_driver.specs.Files.{system_of}
use Rattle.cpl_driver.specs.Runs.{World, final_world}
use Rattle.cpl_driver.specs.declared.system.System.{System}
use Rattle.cpl_driver.specs.declared.status.Status.TheVariants as status

-- a component that counts its runs
abbrev pub counting_file : List ℕ
counting_file = codes "EARTH_component_list: A\nA_grid: 1 1\nA_vars::\nx = 0\n::\nA_phase_run::\nx = x + 1\n::\nrunSeq::\n@1:3\nA\n@\n::\n"

-- its report
abbrev pub counting_report : List ℕ
counting_report = codes "operations 4\ncomponent A runs 3 clock 3\nvar x min 3.000000 max 3.000000 sum 3.000000\nend ok\n"

-- the same on two cells
abbrev pub two_cell_file : List ℕ
two_cell_file = codes "EARTH_component_list: A\nA_grid: 2 1\nA_vars::\nx = 0\n::\nA_phase_run::\nx = x + 1\n::\nrunSeq::\n@1:3\nA\n@\n::\n"

-- the same with its last table open
abbrev pub unclosed_file : List ℕ
unclosed_file = codes "EARTH_component_list: A\nA_grid: 1 1\nA_vars::\nx = 0\n::\nA_phase_run::\nx = x + 1\n::\nrunSeq::\n@1:3\nA\n@\n"

-- two runs of half an hour, with blanks between and before the words
abbrev pub doubling_file : List ℕ
doubling_file = codes "\n EARTH_component_list:Sea\nSea_grid:1  1\n\nSea_vars::\nheat = 0.5\n::\nSea_phase_run::\n heat = heat + heat+0.25\n::\nrunSeq::\n  @900:1800\n    Sea\n  @\n::"

-- its report
abbrev pub doubling_report : List ℕ
doubling_report = codes "operations 3\ncomponent Sea runs 2 clock 1800\nvar heat min 2.750000 max 2.750000 sum 2.750000\nend ok\n"

-- a number, in millionths
abbrev pub number : ℤ → Formula
number z = roll-Formula (Number z)

-- the variable
abbrev pub variable : Formula
variable = roll-Formula (Input 0)

-- a sum
abbrev pub sum_tree : Formula → Formula → Formula
sum_tree a b = roll-Formula (Plus a b)

-- a rule that reads the variable alone
abbrev pub rule : Formula → Parsed
rule tree = record { tree = tree; reads = record { name = Field 0; dx = pos 0; dy = pos 0 } ∷ [] }

-- a component whose phase has this rule
abbrev pub file_with_rule : List ℕ → List ℕ
file_with_rule text = codes "EARTH_component_list: A\nA_grid: 1 1\nA_vars::\nx = 0\n::\nA_phase_run::\nx = " ++ text ++ codes "\n::\nrunSeq::\n@1:3\nA\n@\n::\n"

-- the variable, and so many times the variable more
abbrev pub variables : ℕ → List ℕ
variables zero = codes "x"
variables (suc n) = variables n ++ codes "+x"

-- their sum
abbrev pub variables_sum : ℕ → Formula
variables_sum zero = variable
variables_sum (suc n) = sum_tree (variables_sum n) variable

-- the systems that the two describe
abbrev pub counting_system : System
counting_system = record { component = codes "A"; field = codes "x"; start = pos 0; rule = rule (sum_tree variable (number (pos 1000000))); sequence = record { step = 1; duration = 3 } }

-- and the other
abbrev pub doubling_system : System
doubling_system = record {
  component = codes "Sea";
  field = codes "heat";
  start = pos 500000;
  rule = rule (sum_tree (sum_tree variable variable) (number (pos 250000)));
  sequence = record { step = 900; duration = 1800 };
}

-- what their runs leave
abbrev pub counting_end : World
counting_end = record { clock = 3; runs = 3; cells = pos 3000000 ∷ [] }

-- and the other
abbrev pub doubling_end : World
doubling_end = record { clock = 1800; runs = 2; cells = pos 2750000 ∷ [] }

-- every name holds these bytes
abbrev pub files_holding : List ℕ → Files
files_holding bytes name = Some bytes

-- `run f` over a shelf whose files all hold these bytes
abbrev pub run_of : List ℕ → Reply
run_of bytes = answer (codes "run" ∷ codes "f" ∷ []) (files_holding bytes)

-- the refusal of a form that is not built yet
abbrev pub refusal_reply : Reply
refusal_reply = record { status = status.Refused; text = not_yet_built_line }

-- the rules that a system may have: sums of numbers and of its variable, and nothing else
pub record RuleExamples : Type 0 where
  pub number_alone : system_of (file_with_rule (codes "2.5")) ≡ Some (record counting_system { rule = record { tree = number (pos 2500000); reads = [] } })
  pub atoms_32 : system_of (file_with_rule (variables 31)) ≡ Some (record counting_system { rule = rule (variables_sum 31) })
  pub atoms_33 : system_of (file_with_rule (variables 32)) ≡ None
  pub difference : system_of (file_with_rule (codes "x - 1")) ≡ None
  pub quantity : system_of (file_with_rule (codes "i + 1")) ≡ None
  pub neighbour : system_of (file_with_rule (codes "x[0,0]")) ≡ None
  pub brackets : system_of (file_with_rule (codes "(x)")) ≡ None
  pub two_atoms : system_of (file_with_rule (codes "x 1")) ≡ None
  pub unknown : system_of (file_with_rule (codes "y + 1")) ≡ None
  pub plus_last : system_of (file_with_rule (codes "x +")) ≡ None
  pub point_last : system_of (file_with_rule (codes "x + 1.")) ≡ None
  pub seven_places : system_of (file_with_rule (codes "x + 0.1234567")) ≡ None

-- all of these
pub record SerialExamples : Type 0 where
  pub rules : RuleExamples
  pub describes_counting : system_of counting_file ≡ Some counting_system
  pub describes_doubling : system_of doubling_file ≡ Some doubling_system
  pub runs_counting : final_world counting_system ≡ counting_end
  pub runs_doubling : final_world doubling_system ≡ doubling_end
  pub counts : run_of counting_file ≡ record { status = status.Ok; text = counting_report }
  pub doubles : run_of doubling_file ≡ record { status = status.Ok; text = doubling_report }
  pub two_cells : run_of two_cell_file ≡ refusal_reply
  pub open_table : run_of unclosed_file ≡ refusal_reply
  pub empty : run_of [] ≡ refusal_reply
  pub missing : answer (codes "run" ∷ codes "f" ∷ []) (λ name. None) ≡ record { status = status.ReadFault; text = codes "read fault f\n" }
  pub no_file : answer (codes "run" ∷ []) (files_holding counting_file) ≡ record { status = status.Usage; text = usage_line }
  pub minus : answer (codes "run" ∷ codes "-f" ∷ []) (files_holding counting_file) ≡ record { status = status.Usage; text = usage_line }
  pub other_command : answer (codes "check" ∷ codes "f" ∷ []) (files_holding counting_file) ≡ record { status = status.Usage; text = usage_line }
