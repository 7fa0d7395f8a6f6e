-- What stands behind a field's name, where that isn't a bracket.
use Rattle.std.proofs.Common.{◌≡◌, ℕ, List, refl}
use Rattle.cpl_formula.specs.Grammar.{input_of}
use Rattle.cpl_formula.specs.Levels.{read_here}
use Rattle.cpl_formula.specs.Reads.{with_read}
use Rattle.cpl_formula.specs.Steps.{step_after_operand, leaf, step_after_name}
use Rattle.cpl_formula.specs.declared.formula.Read.{Read}
use Rattle.cpl_formula.specs.declared.state.Frame.{Frame}
use Rattle.cpl_formula.specs.declared.state.Level.{Level}
use Rattle.cpl_formula.specs.declared.tokens.Token.{Token}
use Rattle.cpl_formula.specs.declared.tokens.Token.TheVariants.{OpenBracket}

pub unbracketed : (reads : List Read) (frames : List Frame) (level : Level) (k : ℕ) (t : Token) → (t ≡ OpenBracket → ⊥) → step_after_name reads frames level k t ≡ step_after_operand (with_read reads (read_here k)) frames level (leaf (input_of reads (read_here k))) t
unbracketed reads frames level k OpenBracket differs = absurd (differs refl)
unbracketed reads frames level k t differs = refl
