-- What holds of a rule that was read: what it names is there, and a field that it reads has a name.
use Rattle.std.proofs.Common.{◌≡◌, ℕ, zero, suc, ◌+◌, ◌<◌, ◌==◌, true, List, [], ◌∷◌, ◌++◌, length, map, slice_index, codes, All, Option, Some, None, Result, Ok, Err, IfOk, IsTrue, refl, subst, arith}
use Rattle.std.specs.List.{join_with_byte, slice_get}
use Rattle.std.specs.Str.{bytes_eq}
use Rattle.std.proofs.lemmas.Bool.{eqb-true}
use Rattle.std.proofs.lemmas.List.{length-map}
use Rattle.std.proofs.lemmas.List.Elements.{All-nil, All-push, All-weaker}
use Rattle.cpl_formula.specs.Arguments.{IsArgument, argument_of}
use Rattle.cpl_formula.specs.Reads.{AreReads}
use Rattle.cpl_formula.specs.Steps.{parsed_of}
use Rattle.cpl_formula.specs.Tree.{is_over}
use Rattle.cpl_formula.specs.declared.arguments.Argument.{Argument}
use Rattle.cpl_formula.specs.declared.fault.FormulaFault.{FormulaFault}
use Rattle.cpl_formula.specs.declared.formula.EntrySign.{EntrySign}
use Rattle.cpl_formula.specs.declared.formula.Parsed.{Parsed}
use Rattle.cpl_formula.proofs.Answers.{gives-over, gives-reads}
use Rattle.cpl_formula.proofs.ArgumentsFacts.{argument-among}
use Rattle.cpl_formula.proofs.NamedFacts.{IsNamedArgument, IsNamedRead, argument-named, parsed-named}
use Rattle.cpl_comp.specs.Components.{IsCall, IsFormula, IsRule, Limits, limits_of}
use Rattle.cpl_comp.specs.Rules.{Scope, arguments_with, entry_of, in_line, inputs_in, native_call, native_rule, plain_rule, rule_of}
use Rattle.cpl_comp.specs.declared.component.Rule.{Rule}
use Rattle.cpl_comp.specs.declared.component.Rule.TheVariants.{Plain, Native}
use Rattle.cpl_comp.specs.declared.fault.CompFault.TheVariants.{InputsDiffer}
use Rattle.cpl_comp.proofs.ListFacts.{position-below}
use Rattle.cpl_comp.proofs.ResultFacts.{bind-fact, if-IfOk, test-IfOk}

-- A rule over what a scope names; the fields that it reads have names.
pub record IsRuleOver (pets : ℕ) (scope : Scope) (rule : Rule) : Type 0 where
  pub is : IsRule (limits_of pets scope.alarms scope.signs) (length scope.fields) rule
  pub formula_named : (parsed : Parsed) → rule ≡ Plain parsed → All (IsNamedRead scope.fields) parsed.reads
  pub call_named : (entry : ℕ) (arguments : List Argument) → rule ≡ Native entry arguments → All (IsNamedArgument scope.fields) arguments

-- an answer with its line has what it has without
in_line-IfOk : {A : Type 0} (P : A → Type 0) (line : ℕ) (r : Result A FormulaFault) → IfOk r P → IfOk (in_line line r) P
in_line-IfOk P line (Ok x) holds = holds
in_line-IfOk P line (Err fault) holds = tt

-- ---- formulas

-- A formula over what a scope names.
record IsParsedOver (scope : Scope) (parsed : Parsed) : Type 0 where
  reads : AreReads (length scope.fields) (length scope.alarms) parsed.reads
  over : IsTrue (is_over (length parsed.reads) parsed.tree)
  named : All (IsNamedRead scope.fields) parsed.reads

-- what a text is read as is over the scope
parsed-over : (scope : Scope) (text : List ℕ) (r : Result Parsed FormulaFault) → parsed_of scope.fields scope.alarms text ≡ r → IfOk r (IsParsedOver scope)
parsed-over scope text (Ok p) is = record {
  reads = gives-reads scope.fields scope.alarms text (Ok p) is;
  over = gives-over scope.fields scope.alarms text (Ok p) is;
  named = let P : Result Parsed FormulaFault → Type 0 = λ r. IfOk r (λ p. All (IsNamedRead scope.fields) p.reads) in subst P is (parsed-named scope.fields scope.alarms text);
}
parsed-over scope text (Err fault) is = tt

-- a formula as a rule
plain-over : (pets : ℕ) (scope : Scope) (parsed : Parsed) → IsParsedOver scope parsed → IsRuleOver pets scope (Plain parsed)
plain-over pets scope parsed over = record {
  is = record {
    formula = λ p is. let same : parsed ≡ p = cc in subst (IsFormula (limits_of pets scope.alarms scope.signs) (length scope.fields)) same (record { reads = over.reads; over = over.over });
    call = λ entry arguments is. absurd (cc);
  };
  formula_named = λ p is. let same : parsed ≡ p = cc in subst (λ (q : Parsed). All (IsNamedRead scope.fields) q.reads) same over.named;
  call_named = λ entry arguments is. absurd (cc);
}

-- words that are a formula
plain_rule-over : (pets : ℕ) (scope : Scope) (line : ℕ) (words : List (List ℕ)) → IfOk (plain_rule scope line words) (IsRuleOver pets scope)
plain_rule-over pets scope line words =
    bind-fact (IsRuleOver pets scope) (IsParsedOver scope) (in_line line (parsed_of scope.fields scope.alarms (join_with_byte 32 words))) _
    (in_line-IfOk (IsParsedOver scope) line (parsed_of scope.fields scope.alarms (join_with_byte 32 words)) (parsed-over scope (join_with_byte 32 words) _ refl))
    (λ parsed over. plain-over pets scope parsed over)

-- ---- calls of native entries

-- An argument over what a scope names.
record IsArgumentOver (scope : Scope) (argument : Argument) : Type 0 where
  is : IsArgument (length scope.fields) (length scope.alarms) argument
  named : IsNamedArgument scope.fields argument

-- what a word stands for is over the scope
argument-over : (scope : Scope) (r : Result Argument FormulaFault) → IfOk r (IsArgument (length scope.fields) (length scope.alarms)) → IfOk r (IsNamedArgument scope.fields) → IfOk r (IsArgumentOver scope)
argument-over scope (Ok a) among named = record { is = among; named = named }
argument-over scope (Err fault) among named = tt

-- so are those of further words
arguments_with-over : (scope : Scope) (before : List Argument) (at : ℕ) (words : List (List ℕ)) → All (IsArgumentOver scope) before → IfOk (arguments_with scope before at words) (All (IsArgumentOver scope))
arguments_with-over scope before at [] over = over
arguments_with-over scope before at (word ∷ words) over =
    bind-fact (All (IsArgumentOver scope)) (IsArgumentOver scope) (argument_of scope.fields scope.alarms at word) _
    (argument-over scope (argument_of scope.fields scope.alarms at word) (argument-among scope.fields scope.alarms at word) (argument-named scope.fields scope.alarms at word))
    (λ argument here. arguments_with-over scope (before ++ argument ∷ []) (at + length word + 1) words (All-push (IsArgumentOver scope) before argument over here))

-- how many inputs the entry of a place takes
inputs-at : (signs : List EntrySign) (entry count : ℕ) → entry < length signs → (inputs_in (slice_get signs entry) == count) ≡ true → slice_index (map (λ sign. sign.inputs) signs) entry ≡ count
inputs-at [] entry count below same = absurd (omega arith)
inputs-at (sign ∷ signs) zero count below same = eqb-true sign.inputs count same
inputs-at (sign ∷ signs) (suc entry) count below same = inputs-at signs entry count (omega arith) same

-- a call as a rule
native-over : (pets : ℕ) (scope : Scope) (entry : ℕ) (arguments : List Argument) → entry < length scope.signs → (inputs_in (slice_get scope.signs entry) == length arguments) ≡ true → All (IsArgumentOver scope) arguments → IsRuleOver pets scope (Native entry arguments)
native-over pets scope entry arguments below same over =
    let limits : Limits = limits_of pets scope.alarms scope.signs in
    let count : length (map (λ (sign : EntrySign). sign.inputs) scope.signs) ≡ length scope.signs = length-map scope.signs (λ (sign : EntrySign). sign.inputs) in
    let call : IsCall limits (length scope.fields) entry arguments = record {
      there = omega arith;
      inputs = inputs-at scope.signs entry (length arguments) below same;
      arguments_are = All-weaker (IsArgumentOver scope) (IsArgument (length scope.fields) (length scope.alarms)) (λ a o. o.is) arguments over;
    } in
    let named : All (IsNamedArgument scope.fields) arguments = All-weaker (IsArgumentOver scope) (IsNamedArgument scope.fields) (λ a o. o.named) arguments over in
    record {
      is = record {
        formula = λ p is. absurd (cc);
        call = λ e a is. let at : entry ≡ e = cc in let given : arguments ≡ a = cc in
            subst (λ (k : ℕ). IsCall limits (length scope.fields) k a) at (subst (IsCall limits (length scope.fields) entry) given call);
      };
      formula_named = λ p is. absurd (cc);
      call_named = λ e a is. let given : arguments ≡ a = cc in subst (All (IsNamedArgument scope.fields)) given named;
    }

-- a call of the entry that was found
native_call-over : (pets : ℕ) (scope : Scope) (line : ℕ) (label : List ℕ) (arguments : List Argument) (entry : Option ℕ) → All (IsArgumentOver scope) arguments → entry_of scope.signs label ≡ entry → IfOk (native_call scope.signs line arguments entry) (IsRuleOver pets scope)
native_call-over pets scope line label arguments None over found = tt
native_call-over pets scope line label arguments (Some entry) over found =
    test-IfOk (IsRuleOver pets scope) (inputs_in (slice_get scope.signs entry) == length arguments) (InputsDiffer line) _ (λ same.
    native-over pets scope entry arguments (position-below (λ (sign : EntrySign). bytes_eq sign.label label) scope.signs entry found) same over)

-- words that are a call
native_rule-over : (pets : ℕ) (scope : Scope) (line : ℕ) (words : List (List ℕ)) → IfOk (native_rule scope line words) (IsRuleOver pets scope)
native_rule-over pets scope line [] = tt
native_rule-over pets scope line (label ∷ []) = tt
native_rule-over pets scope line (label ∷ word ∷ words) =
    bind-fact (IsRuleOver pets scope) (All (IsArgumentOver scope)) (in_line line (arguments_with scope [] (6 + length label) (word ∷ words))) _
    (in_line-IfOk (All (IsArgumentOver scope)) line (arguments_with scope [] (6 + length label) (word ∷ words)) (arguments_with-over scope [] (6 + length label) (word ∷ words) (All-nil (IsArgumentOver scope))))
    (λ arguments over. native_call-over pets scope line label arguments (entry_of scope.signs label) over refl)

-- ---- a rule

-- words that are a rule
pub rule_of-over : (pets : ℕ) (scope : Scope) (line : ℕ) (words : List (List ℕ)) → IfOk (rule_of scope line words) (IsRuleOver pets scope)
rule_of-over pets scope line [] = plain_rule-over pets scope line []
rule_of-over pets scope line (word ∷ words) =
    if-IfOk (IsRuleOver pets scope) (bytes_eq word (codes "call")) _ _ (native_rule-over pets scope line words) (plain_rule-over pets scope line (word ∷ words))
