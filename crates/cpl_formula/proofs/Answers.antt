-- What `parse` promises, from what its steps give; and what that is by the function that computes it.
use Rattle.std.proofs.Common.{◌≡◌, ℕ, ◌⊎◌, List, length, Result, Ok, Err, IfOk, IsTrue, inl, inr, refl, sym, subst}
use Rattle.cpl_base.specs.Gives.{Gives}
use Rattle.cpl_formula.specs.Formulas.{IsAnswer, OutcomeOf}
use Rattle.cpl_formula.specs.Levels.{TextGives}
use Rattle.cpl_formula.specs.Reads.{AreReads}
use Rattle.cpl_formula.specs.Steps.{parsed_of}
use Rattle.cpl_formula.specs.Tree.{is_over}
use Rattle.cpl_formula.specs.declared.fault.FormulaFault.{FormulaFault}
use Rattle.cpl_formula.specs.declared.fault.FormulaFault.TheVariants.{Syntax, BadNumber, NameUnknown, FarNeighbour, DeepFormula, Memory}
use Rattle.cpl_formula.specs.declared.formula.Parsed.{Parsed}
use Rattle.cpl_formula.proofs.Outcomes.{outcome, only_outcome}
use Rattle.cpl_formula.proofs.TreeFacts.{IsSound, sound-outcome}

gives-text : (result given : Result Parsed FormulaFault) → TextGives result given → Gives Memory (λ p. p) result given
gives-text (Ok p) given gives = record { value = gives; fault = tt }
gives-text (Err Memory) given gives = record { value = tt; fault = inl refl }
gives-text (Err (Syntax at)) given gives = record { value = tt; fault = inr gives }
gives-text (Err (BadNumber at)) given gives = record { value = tt; fault = inr gives }
gives-text (Err (NameUnknown at)) given gives = record { value = tt; fault = inr gives }
gives-text (Err (FarNeighbour at)) given gives = record { value = tt; fault = inr gives }
gives-text (Err DeepFormula) given gives = record { value = tt; fault = inr gives }

pub answer-gives : (fields alarms : List (List ℕ)) (text : List ℕ) (result : Result Parsed FormulaFault) → TextGives result (parsed_of fields alarms text) → IsAnswer fields alarms text result
answer-gives fields alarms text result gives = record {
  given = parsed_of fields alarms text;
  outcome = outcome fields alarms text;
  unique = only_outcome fields alarms text;
  gives = gives-text result (parsed_of fields alarms text) gives;
}

gives-sound : (fields alarms : List (List ℕ)) (text : List ℕ) (result : Result Parsed FormulaFault) → TextGives result (parsed_of fields alarms text) → IfOk result (IsSound (length fields) (length alarms))
gives-sound fields alarms text (Ok p) gives = sound-outcome fields alarms text p (subst (OutcomeOf fields alarms text) gives (outcome fields alarms text))
gives-sound fields alarms text (Err fault) gives = tt

over-sound : (fields alarms : ℕ) (result : Result Parsed FormulaFault) → IfOk result (IsSound fields alarms) → IfOk result (λ p. IsTrue (is_over (length p.reads) p.tree))
over-sound fields alarms (Ok p) sound = sound.over
over-sound fields alarms (Err fault) sound = tt

reads-sound : (fields alarms : ℕ) (result : Result Parsed FormulaFault) → IfOk result (IsSound fields alarms) → IfOk result (λ p. AreReads fields alarms p.reads)
reads-sound fields alarms (Ok p) sound = sound.reads
reads-sound fields alarms (Err fault) sound = tt

pub gives-over : (fields alarms : List (List ℕ)) (text : List ℕ) (result : Result Parsed FormulaFault) → TextGives result (parsed_of fields alarms text) → IfOk result (λ p. IsTrue (is_over (length p.reads) p.tree))
gives-over fields alarms text result gives = over-sound (length fields) (length alarms) result (gives-sound fields alarms text result gives)

pub gives-reads : (fields alarms : List (List ℕ)) (text : List ℕ) (result : Result Parsed FormulaFault) → TextGives result (parsed_of fields alarms text) → IfOk result (λ p. AreReads (length fields) (length alarms) p.reads)
gives-reads fields alarms text result gives = reads-sound (length fields) (length alarms) result (gives-sound fields alarms text result gives)

-- ---- for crates above

-- an answer of `parse` is what the function that computes outcomes gives, unless memory ran out
pub gives-answer : (fields alarms : List (List ℕ)) (text : List ℕ) (result : Result Parsed FormulaFault) → IsAnswer fields alarms text result → Gives Memory (λ p. p) result (parsed_of fields alarms text)
gives-answer fields alarms text result answer =
    subst (λ given. Gives Memory (λ p. p) result given) (sym (answer.unique (parsed_of fields alarms text) (outcome fields alarms text))) answer.gives

-- the same of a value, and of a fault
pub answer-ok : (fields alarms : List (List ℕ)) (text : List ℕ) (p : Parsed) → IsAnswer fields alarms text (Ok p) → parsed_of fields alarms text ≡ Ok p
answer-ok fields alarms text p answer = let gives = gives-answer fields alarms text (Ok p) answer in gives.value

pub answer-err : (fields alarms : List (List ℕ)) (text : List ℕ) (fault : FormulaFault) → IsAnswer fields alarms text (Err fault) → (fault ≡ Memory) ⊎ (parsed_of fields alarms text ≡ Err fault)
answer-err fields alarms text fault answer = let gives = gives-answer fields alarms text (Err fault) answer in gives.fault

-- for `#[tactic(auto, using(..))]` on a function that calls `parse`
pub ruleset answers = (answer-ok, answer-err)
