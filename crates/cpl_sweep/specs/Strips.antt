-- What stands in a strip of cells.
use Rattle.std.specs.Prelude.{◌≡◌, ℕ, ℤ, ◌+◌, ◌<◌, List, length}
use Rattle.std.specs.List.{All}
use Rattle.cpl_base.specs.Numbers.{IsValue}
use Rattle.cpl_formula.specs.declared.formula.Formula.{Formula}
use Rattle.cpl_sweep.specs.Kernels.{number_at}
use Rattle.cpl_sweep.specs.Places.{IsPlace, value_at}
use Rattle.cpl_sweep.specs.declared.operands.Inputs.{Inputs}
use Rattle.cpl_sweep.specs.declared.operands.Operand.{Operand}
use Rattle.cpl_sweep.specs.declared.operands.Operand.TheVariants.{Number, Run, Tree}

-- the inputs reach so many cells of a strip, and all fields have values
pub record IsReady (inputs : Inputs) (cells : ℕ) : Type 0 where
  pub places : All (IsPlace inputs.fields.now (inputs.skip + cells)) inputs.places.now
  pub fields : All (All IsValue) inputs.fields.now

-- the value of a formula at a cell of a strip
abbrev pub strip_value : Inputs → Formula → ℕ → ℤ
strip_value inputs tree k = value_at inputs.places.now inputs.fields.now tree (inputs.skip + k)

-- a strip has these values
pub record IsStrip (value : ℕ → ℤ) (these : List ℤ) : Type 0 where
  pub each : (k : ℕ) → k < length these → number_at these k ≡ value k
  pub within : All IsValue these

-- over so many cells of a strip a part has one value, and takes no strip
pub record IsSame (value : ℕ → ℤ) (own cells : ℕ) (number : ℤ) : Type 0 where
  pub none : own ≡ 0
  pub is : IsValue number
  pub each : (k : ℕ) → k < cells → value k ≡ number

-- over so many cells of a strip the values of a part stand in a run, and it takes no strip
pub record IsRun (value : ℕ → ℤ) (own cells : ℕ) (run : List ℤ) : Type 0 where
  pub none : own ≡ 0
  pub count : length run ≡ cells
  pub strip : IsStrip value run

-- Where the values of a part of a formula stand, over so many cells of a strip: what has to be worked out takes a strip.
abbrev pub IsOperand : (ℕ → ℤ) → ℕ → ℕ → Operand → Type 0
IsOperand value own cells (Number number) = IsSame value own cells number
IsOperand value own cells (Run run) = IsRun value own cells run.now
IsOperand value own cells Tree = own ≡ 1
