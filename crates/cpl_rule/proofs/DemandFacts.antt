-- Demands: what covers a rule covers it when it is wider, and what the rules of a list come to.
use Rattle.std.proofs.Common.{◌≡◌, ℕ, ◌+◌, ◌<◌, ◌≤◌, List, [], ◌∷◌, ◌++◌, length, map, get_or, take, min, sym, ap, subst, ◌∙◌}
use Rattle.std.proofs.Math.Nat.{le_refl, le_trans}
use Rattle.std.proofs.lemmas.List.{take_all}
use Rattle.std.proofs.lemmas.List.Elements.{All-append, All-cons, All-get_or, All-head, All-map, All-more, All-nil, All-tail}
use Rattle.std.specs.List.{All}
use Rattle.cpl_comp.proofs.HeldFacts.{All-left, All-right}
use Rattle.cpl_comp.specs.declared.component.Field.{Field}
use Rattle.cpl_comp.specs.declared.component.Phase.{Phase}
use Rattle.cpl_comp.specs.declared.component.Rule.{Rule}
use Rattle.cpl_formula.specs.declared.arguments.Argument.{Argument}
use Rattle.cpl_formula.specs.declared.arguments.Argument.TheVariants.{Number, Cell}
use Rattle.cpl_formula.specs.declared.formula.Read.{Read}
use Rattle.cpl_comp.specs.declared.component.Rule.TheVariants.{Plain, Native}
use Rattle.cpl_comp.specs.declared.component.SetRow.{SetRow}
use Rattle.cpl_formula.specs.declared.formula.Formula.{Formula}
use Rattle.cpl_formula.specs.declared.formula.Parsed.{Parsed}
use Rattle.cpl_sweep.specs.Rows.{scratch_rows}
use Rattle.cpl_rule.specs.Inputs.{arguments_of}
use Rattle.cpl_rule.proofs.InputsFacts.{of-cells}
use Rattle.cpl_rule.specs.Demands.{most_strips, IsArgumentWithin, IsCovered, IsPhaseCovered, IsReadWithin, IsStartCovered, IsWider}
use Rattle.cpl_rule.specs.declared.demand.Demand.{Demand}

pub wider-same : (demand : Demand) → IsWider demand demand
wider-same demand = record { rx = le_refl _; ry = le_refl _; inputs = le_refl _; strips = le_refl _ }

pub wider-more : (a b c : Demand) → IsWider a b → IsWider b c → IsWider a c
wider-more a b c first second = record {
  rx = le_trans first.rx second.rx;
  ry = le_trans first.ry second.ry;
  inputs = le_trans first.inputs second.inputs;
  strips = le_trans first.strips second.strips;
}

pub read-wider : (a b : Demand) (read : Read) → IsWider a b → IsReadWithin a read → IsReadWithin b read
read-wider a b read wider within = record { across = le_trans within.across wider.rx; down = le_trans within.down wider.ry }

pub argument-wider : (a b : Demand) (argument : Argument) → IsWider a b → IsArgumentWithin a argument → IsArgumentWithin b argument
argument-wider a b (Number number) wider within = tt
argument-wider a b (Cell read) wider within = read-wider a b read wider within

pub rule-wider : (a b : Demand) (rule : Rule) → IsWider a b → IsCovered a rule → IsCovered b rule
rule-wider a b rule wider covered = record {
  reads = λ k d below. argument-wider a b _ wider (covered.reads k d below);
  inputs = le_trans covered.inputs wider.inputs;
  strips = λ parsed is. le_trans (covered.strips parsed is) wider.strips;
}

-- What a demand is once the first so many members of a list are added to another.
pub record IsPassed {X : Type 0} (P : Demand → X → Type 0) (first : Demand) (k : ℕ) (xs : List X) (demand : Demand) : Type 0 where
  pub wider : IsWider first demand
  pub covers : All (P demand) (take k xs)
  pub least : (other : Demand) → IsWider first other → All (P other) xs → IsWider demand other

module _ {X : Type 0} (P : Demand → X → Type 0) (grows : (a b : Demand) (x : X) → IsWider a b → P a x → P b x) (first : Demand) (xs : List X) where
  pub passed-none : IsPassed P first 0 xs first
  passed-none = record { wider = wider-same first; covers = All-nil (P first); least = λ other wider each. wider }

  pub passed-more : (k : ℕ) (d : X) (before after : Demand) → IsPassed P first k xs before → k < length xs
      → IsWider before after → P after (get_or xs k d) → ((other : Demand) → IsWider before other → P other (get_or xs k d) → IsWider after other)
      → IsPassed P first (k + 1) xs after
  passed-more k d before after passed below wider covers least = record {
    wider = wider-more first before after passed.wider wider;
    covers = All-more (P after) xs k d below (λ j e there. grows before after _ wider (passed.covers j e there)) covers;
    least = λ other over each. least other (passed.least other over each) (All-get_or (P other) xs k d below each);
  }

  pub passed-at : (k : ℕ) (x : X) (before after : Demand) → IsPassed P first k xs before → k < length xs → x ≡ get_or xs k x
      → IsWider before after → P after x → ((other : Demand) → IsWider before other → P other x → IsWider after other)
      → IsPassed P first (k + 1) xs after
  passed-at k x before after passed below is wider covers least =
      passed-more k x before after passed below wider (subst (P after) is covers) (λ other over holds. least other over (subst (P other) (sym is) holds))

  pub passed-all : (k : ℕ) (demand : Demand) → length xs ≤ k → IsPassed P first k xs demand → All (P demand) xs
  passed-all k demand end passed = subst (All (P demand)) (take_all k xs end) passed.covers

-- the start rule of a field, the rules of a phase
pub start-wider : (a b : Demand) (field : Field) → IsWider a b → IsStartCovered a field → IsStartCovered b field
start-wider a b field wider covered = λ rule same. rule-wider a b rule wider (covered rule same)

pub phase-wider : (a b : Demand) (phase : Phase) → IsWider a b → IsPhaseCovered a phase → IsPhaseCovered b phase
phase-wider a b phase wider covered = λ k d below. rule-wider a b _ wider (covered k d below)

-- ---- one rule

-- the strips of a rule, as far as they are counted
abbrev pub strips_in : Rule → ℕ
strips_in (Plain parsed) = min (scratch_rows parsed.tree) most_strips
strips_in (Native entry arguments) = 0

pub covered-by : (demand : Demand) (rule : Rule) → All (IsArgumentWithin demand) (arguments_of rule) → length (arguments_of rule) ≤ demand.inputs → strips_in rule ≤ demand.strips → IsCovered demand rule
covered-by demand rule reads inputs strips = record {
  reads = reads;
  inputs = inputs;
  strips = λ parsed same. subst (λ r. strips_in r ≤ demand.strips) same strips;
}

-- what is read of a formula, as reads and as arguments
pub plain-reads : (demand : Demand) (rule : Rule) (parsed : Parsed) (reads : List Read) → rule ≡ Plain parsed → reads ≡ parsed.reads
    → All (IsArgumentWithin demand) (arguments_of rule) → All (IsReadWithin demand) reads
plain-reads demand rule parsed reads is same within =
    subst (λ (rs : List Read). All (IsReadWithin demand) rs) (sym same)
    (of-cells (IsArgumentWithin demand) parsed.reads (subst (λ r. All (IsArgumentWithin demand) (arguments_of r)) is within))

pub plain-arguments : (demand : Demand) (rule : Rule) (parsed : Parsed) (reads : List Read) → rule ≡ Plain parsed → reads ≡ parsed.reads
    → All (IsReadWithin demand) reads → All (IsArgumentWithin demand) (arguments_of rule)
plain-arguments demand rule parsed reads is same within =
    subst (λ r. All (IsArgumentWithin demand) (arguments_of r)) (sym is)
    (All-map (IsArgumentWithin demand) Cell parsed.reads (subst (λ (rs : List Read). All (IsReadWithin demand) rs) same within))

-- what is read of a formula, the strips counted
pub plain-strips : (rule : Rule) (parsed : Parsed) (rows : ℕ) (tree : Formula) → rule ≡ Plain parsed → tree ≡ parsed.tree → rows ≡ min (scratch_rows tree) most_strips → strips_in rule ≡ rows
plain-strips rule parsed rows tree is same counted = ap strips_in is ∙ ap (λ t. min (scratch_rows t) most_strips) (sym same) ∙ sym counted

-- the strips of a formula that is covered
pub counted-strips : (demand : Demand) (rule : Rule) (parsed : Parsed) (rows : ℕ) (tree : Formula) → rule ≡ Plain parsed → tree ≡ parsed.tree → rows ≡ min (scratch_rows tree) most_strips → IsCovered demand rule → rows ≤ demand.strips
counted-strips demand rule parsed rows tree is same counted covered =
    let few = covered.strips parsed is in
    let at : rows ≡ min (scratch_rows parsed.tree) most_strips = counted ∙ ap (λ t. min (scratch_rows t) most_strips) same in
    subst (λ n. n ≤ demand.strips) (sym at) few

-- ---- the rules of a phase

-- all rules of a phase, from those of its assignments and of what it keeps
pub phase-covered : (demand : Demand) (sets adds : List SetRow) → All (λ row. IsCovered demand row.rule) sets → All (λ row. IsCovered demand row.rule) adds
    → All (IsCovered demand) (map (λ (row : SetRow). row.rule) sets ++ map (λ (row : SetRow). row.rule) adds)
phase-covered demand sets adds first second =
    All-append (IsCovered demand) (map (λ row. row.rule) sets) (map (λ row. row.rule) adds)
    (All-map (IsCovered demand) (λ row. row.rule) sets first) (All-map (IsCovered demand) (λ row. row.rule) adds second)

-- and back
rows-covered : (demand : Demand) (rows : List SetRow) → All (IsCovered demand) (map (λ (row : SetRow). row.rule) rows) → All (λ row. IsCovered demand row.rule) rows
rows-covered demand [] each = All-nil (λ row. IsCovered demand row.rule)
rows-covered demand (row ∷ rows) each =
    All-cons (λ (row : SetRow). IsCovered demand row.rule) row rows (All-head (IsCovered demand) row.rule (map (λ (row : SetRow). row.rule) rows) each)
    (rows-covered demand rows (All-tail (IsCovered demand) row.rule (map (λ (row : SetRow). row.rule) rows) each))

pub sets-covered : (demand : Demand) (phase : Phase) → IsPhaseCovered demand phase → All (λ row. IsCovered demand row.rule) phase.sets
sets-covered demand phase each = rows-covered demand phase.sets (All-left (IsCovered demand) (map (λ (row : SetRow). row.rule) phase.sets) (map (λ (row : SetRow). row.rule) phase.adds) each)

pub adds-covered : (demand : Demand) (phase : Phase) → IsPhaseCovered demand phase → All (λ row. IsCovered demand row.rule) phase.adds
adds-covered demand phase each = rows-covered demand phase.adds (All-right (IsCovered demand) (map (λ (row : SetRow). row.rule) phase.sets) (map (λ (row : SetRow). row.rule) phase.adds) each)
