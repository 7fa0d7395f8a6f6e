-- What a derivation stands for can be evaluated at a value for each of its reads, which are among the names given.
use Rattle.std.proofs.Common.{◌≡◌, ℕ, ◌*◌, ◌<◌, ◌≤◌, ℤ, pos, unsigned_abs, Bool, true, ◌&&◌, List, [], ◌∷◌, ◌++◌, length, Result, Ok, IfOk, refl, ◌∙◌, subst, arith, true≢false}
use Rattle.std.specs.Prelude.{IsTrue}
use Rattle.std.specs.List.{AllByRecursion, position_or_len}
use Rattle.std.proofs.lemmas.Bool.{and_from, le-leb, lt-ltb}
use Rattle.cpl_base.specs.Numbers.{greatest, million}
use Rattle.cpl_formula.specs.Formulas.{Outcome, OutcomeOf, formula_of, kinds}
use Rattle.cpl_formula.specs.Formulas.Outcome.{tangles, is_faulty, ends_early, is_deep, is_formula}
use Rattle.cpl_formula.specs.Functions.{tree_of_binary, tree_of_ternary, tree_of_unary}
use Rattle.cpl_formula.specs.Grammar.{Expr, Term, Factor, Atom, Offset, yield_of_expr, yield_of_term, yield_of_factor, yield_of_atom, reads_of_expr, reads_of_term, reads_of_factor, reads_of_atom, tree_of_expr, tree_of_term, tree_of_factor, tree_of_atom, tree_of_sum, tree_of_product, input_of, offset_number}
use Rattle.cpl_formula.specs.Grammar.Expr.{term, sum}
use Rattle.cpl_formula.specs.Grammar.Term.{factor, product}
use Rattle.cpl_formula.specs.Grammar.Factor.{minus, atom}
use Rattle.cpl_formula.specs.Grammar.Atom.{digit, number, quantity, field, neighbour, group, unary, binary, ternary}
use Rattle.cpl_formula.specs.Grammar.Near.{none, one, two}
use Rattle.cpl_formula.specs.Grammar.Offset.{ahead, back}
use Rattle.cpl_formula.specs.Reads.{AreReads, IsRead, distinct_reads, read_at, same_read}
use Rattle.cpl_formula.specs.Tokens.{Placed, tokens_of}
use Rattle.cpl_formula.specs.Tree.{is_over, over_step}
use Rattle.cpl_formula.specs.declared.fault.FormulaFault.{FormulaFault}
use Rattle.cpl_formula.specs.declared.formula.Formula.{Formula}
use Rattle.cpl_formula.specs.declared.formula.Formula.TheFolds.{fold-roll-Formula}
use Rattle.cpl_formula.specs.declared.formula.Formula.TheOpen as tree
use Rattle.cpl_formula.specs.declared.formula.Parsed.{Parsed}
use Rattle.cpl_formula.specs.declared.formula.Read.{Read}
use Rattle.cpl_formula.specs.declared.formula.ReadName.{ReadName}
use Rattle.cpl_formula.specs.declared.formula.ReadName.TheVariants as names
use Rattle.cpl_formula.specs.declared.functions.Binary.{Binary}
use Rattle.cpl_formula.specs.declared.functions.Binary.TheVariants as binaries
use Rattle.cpl_formula.specs.declared.functions.Ternary.{Ternary}
use Rattle.cpl_formula.specs.declared.functions.Ternary.TheVariants as ternaries
use Rattle.cpl_formula.specs.declared.functions.Unary.{Unary}
use Rattle.cpl_formula.specs.declared.functions.Unary.TheVariants as unaries
use Rattle.cpl_formula.specs.declared.tokens.ProductSign.{ProductSign}
use Rattle.cpl_formula.specs.declared.tokens.ProductSign.TheVariants as products
use Rattle.cpl_formula.specs.declared.tokens.SumSign.{SumSign}
use Rattle.cpl_formula.specs.declared.tokens.SumSign.TheVariants as sums
use Rattle.cpl_formula.specs.declared.tokens.Token.TheVariants as token
use Rattle.cpl_formula.proofs.ReadsFacts.{Stands, distinct_reads-among, distinct_reads-stand, first-within}
use Rattle.cpl_formula.proofs.TokenFacts.{IsQuantity, IsToken, tokens-all}

-- ---- reads

-- a digit of an offset is at most two
offset_number-near : (x : Offset) → unsigned_abs (offset_number x) ≤ 2
offset_number-near (ahead none) = omega arith
offset_number-near (ahead one) = omega arith
offset_number-near (ahead two) = omega arith
offset_number-near (back none) = omega arith
offset_number-near (back one) = omega arith
offset_number-near (back two) = omega arith

-- a field, at the cell itself or at a neighbour
pub read-field : (fields alarms k : ℕ) (dx dy : ℤ) → k < fields → unsigned_abs dx ≤ 2 → unsigned_abs dy ≤ 2 → IsRead fields alarms (read_at (names.Field k) dx dy)
read-field fields alarms k dx dy below columns rows = record {
  field = λ l is. let same : k ≡ l = cc in omega (arith, below, same);
  alarm = λ l is. absurd (cc);
  columns = columns;
  rows = rows;
  here = λ none. absurd (true≢false none);
}

-- what is no field's, at the cell itself
pub read-quantity : (fields alarms : ℕ) (q : ReadName) → IsQuantity alarms q → IsRead fields alarms (read_at q (pos 0) (pos 0))
read-quantity fields alarms q is = record {
  field = λ k same. absurd (subst (IsQuantity alarms) same is);
  alarm = λ k same. subst (IsQuantity alarms) same is;
  columns = omega arith;
  rows = omega arith;
  here = λ none. (refl, refl);
}

-- ---- levels whose parts can be evaluated can be evaluated

over-input : (reads : List Read) (r : Read) → Stands reads r → is_over (length reads) (input_of reads r) ≡ true
over-input reads r stands =
    let at = position_or_len (same_read r) reads in
    fold-roll-Formula Bool (over_step (length reads)) (tree.Input at) ∙ lt-ltb at (length reads) (first-within (same_read r) reads stands)

over-tree_of_sum : (count : ℕ) (sign : SumSign) (a b : Formula) → is_over count a ≡ true → is_over count b ≡ true → is_over count (tree_of_sum sign a b) ≡ true
over-tree_of_sum count sums.Plus a b first second = fold-roll-Formula Bool (over_step count) (tree.Plus a b) ∙ and_from (is_over count a) (is_over count b) first second
over-tree_of_sum count sums.Less a b first second = fold-roll-Formula Bool (over_step count) (tree.Less a b) ∙ and_from (is_over count a) (is_over count b) first second

over-tree_of_product : (count : ℕ) (sign : ProductSign) (a b : Formula) → is_over count a ≡ true → is_over count b ≡ true → is_over count (tree_of_product sign a b) ≡ true
over-tree_of_product count products.Times a b first second = fold-roll-Formula Bool (over_step count) (tree.Times a b) ∙ and_from (is_over count a) (is_over count b) first second
over-tree_of_product count products.Over a b first second = fold-roll-Formula Bool (over_step count) (tree.Over a b) ∙ and_from (is_over count a) (is_over count b) first second

over-unary : (count : ℕ) (f : Unary) (a : Formula) → is_over count a ≡ true → is_over count (tree_of_unary f a) ≡ true
over-unary count unaries.Abs a only = fold-roll-Formula Bool (over_step count) (tree.Abs a) ∙ only

over-binary : (count : ℕ) (f : Binary) (a b : Formula) → is_over count a ≡ true → is_over count b ≡ true → is_over count (tree_of_binary f a b) ≡ true
over-binary count binaries.Min a b first second = fold-roll-Formula Bool (over_step count) (tree.Min a b) ∙ and_from (is_over count a) (is_over count b) first second
over-binary count binaries.Max a b first second = fold-roll-Formula Bool (over_step count) (tree.Max a b) ∙ and_from (is_over count a) (is_over count b) first second

over-ternary : (count : ℕ) (f : Ternary) (a b c : Formula) → is_over count a ≡ true → is_over count b ≡ true → is_over count c ≡ true → is_over count (tree_of_ternary f a b c) ≡ true
over-ternary count ternaries.Select a b c first second third =
    fold-roll-Formula Bool (over_step count) (tree.Select a b c)
    ∙ and_from (is_over count a && is_over count b) (is_over count c) (and_from (is_over count a) (is_over count b) first second) third

-- ---- derivations

-- what holds of all of two lists holds of all of each, and the other way round
both : {X : Type 0} (P : X → Type 0) (xs ys : List X) → AllByRecursion P (xs ++ ys) → AllByRecursion P xs × AllByRecursion P ys
both P [] ys all = (tt, all)
both P (x ∷ xs) ys all = let rest = both P xs ys all.1 in ((all.0, rest.0), rest.1)

pub all-append : {X : Type 0} (P : X → Type 0) (xs ys : List X) → AllByRecursion P xs → AllByRecursion P ys → AllByRecursion P (xs ++ ys)
all-append P [] ys first second = second
all-append P (x ∷ xs) ys first second = (first.0, all-append P xs ys first.1 second)

-- the parts of two lists with a member between them
pub around : {X : Type 0} (P : X → Type 0) (xs ys : List X) (x : X) → AllByRecursion P (xs ++ (x ∷ ys)) → AllByRecursion P xs × AllByRecursion P ys
around P xs ys x all = let parts = both P xs (x ∷ ys) all in (parts.0, parts.1.1)

-- a part of a derivation: its tree over all reads can be evaluated, and its own reads are among the names
record IsPart (fields alarms : ℕ) (reads own : List Read) (tree : Formula) : Type 0 where
  over : is_over (length reads) tree ≡ true
  own_reads : AllByRecursion (IsRead fields alarms) own

-- a part of two parts
part-two : (n m : ℕ) (reads xs ys : List Read) (s t u : Formula) → (is_over (length reads) s ≡ true → is_over (length reads) t ≡ true → is_over (length reads) u ≡ true)
    → IsPart n m reads xs s → IsPart n m reads ys t → IsPart n m reads (xs ++ ys) u
part-two n m reads xs ys s t u over a b =
    record { over = over a.over b.over; own_reads = all-append (IsRead n m) xs ys a.own_reads b.own_reads }

part-input : (n m : ℕ) (reads : List Read) (r : Read) → Stands reads r → IsRead n m r → IsPart n m reads (r ∷ []) (input_of reads r)
part-input n m reads r stands is = record { over = over-input reads r stands; own_reads = (is, tt) }

mutual
  part-expr : (n m : ℕ) (reads : List Read) (e : Expr) → AllByRecursion (IsToken n m) (yield_of_expr e) → AllByRecursion (Stands reads) (reads_of_expr e) → IsPart n m reads (reads_of_expr e) (tree_of_expr reads e)
  part-expr n m reads (term t) tokens stand = part-term n m reads t tokens stand
  part-expr n m reads (sum e sign t) tokens stand =
      let parts = around (IsToken n m) (yield_of_expr e) (yield_of_term t) (token.Sum sign) tokens in
      let own = both (Stands reads) (reads_of_expr e) (reads_of_term t) stand in
      part-two n m reads (reads_of_expr e) (reads_of_term t) (tree_of_expr reads e) (tree_of_term reads t) (tree_of_sum sign (tree_of_expr reads e) (tree_of_term reads t))
      (over-tree_of_sum (length reads) sign (tree_of_expr reads e) (tree_of_term reads t)) (part-expr n m reads e parts.0 own.0) (part-term n m reads t parts.1 own.1)

  part-term : (n m : ℕ) (reads : List Read) (t : Term) → AllByRecursion (IsToken n m) (yield_of_term t) → AllByRecursion (Stands reads) (reads_of_term t) → IsPart n m reads (reads_of_term t) (tree_of_term reads t)
  part-term n m reads (factor f) tokens stand = part-factor n m reads f tokens stand
  part-term n m reads (product t sign f) tokens stand =
      let parts = around (IsToken n m) (yield_of_term t) (yield_of_factor f) (token.Product sign) tokens in
      let own = both (Stands reads) (reads_of_term t) (reads_of_factor f) stand in
      part-two n m reads (reads_of_term t) (reads_of_factor f) (tree_of_term reads t) (tree_of_factor reads f) (tree_of_product sign (tree_of_term reads t) (tree_of_factor reads f))
      (over-tree_of_product (length reads) sign (tree_of_term reads t) (tree_of_factor reads f)) (part-term n m reads t parts.0 own.0) (part-factor n m reads f parts.1 own.1)

  part-factor : (n m : ℕ) (reads : List Read) (f : Factor) → AllByRecursion (IsToken n m) (yield_of_factor f) → AllByRecursion (Stands reads) (reads_of_factor f) → IsPart n m reads (reads_of_factor f) (tree_of_factor reads f)
  part-factor n m reads (minus f) tokens stand =
      let part = part-factor n m reads f tokens.1 stand in
      record { over = fold-roll-Formula Bool (over_step (length reads)) (tree.Minus (tree_of_factor reads f)) ∙ part.over; own_reads = part.own_reads }
  part-factor n m reads (atom a) tokens stand = part-atom n m reads a tokens stand

  part-atom : (n m : ℕ) (reads : List Read) (a : Atom) → AllByRecursion (IsToken n m) (yield_of_atom a) → AllByRecursion (Stands reads) (reads_of_atom a) → IsPart n m reads (reads_of_atom a) (tree_of_atom reads a)
  part-atom n m reads (digit d) tokens stand =
      let below : d < 10 = tokens.0 in
      record { over = fold-roll-Formula Bool (over_step (length reads)) (tree.Number (pos (d * million))) ∙ le-leb (d * million) greatest (omega arith); own_reads = tt }
  part-atom n m reads (number z) tokens stand =
      record { over = fold-roll-Formula Bool (over_step (length reads)) (tree.Number z) ∙ le-leb (unsigned_abs z) greatest tokens.0; own_reads = tt }
  part-atom n m reads (quantity q) tokens stand = part-input n m reads (read_at q (pos 0) (pos 0)) stand.0 (read-quantity n m q tokens.0)
  part-atom n m reads (field k) tokens stand =
      part-input n m reads (read_at (names.Field k) (pos 0) (pos 0)) stand.0 (read-field n m k (pos 0) (pos 0) tokens.0 (omega arith) (omega arith))
  part-atom n m reads (neighbour k x y) tokens stand =
      part-input n m reads (read_at (names.Field k) (offset_number x) (offset_number y)) stand.0 (read-field n m k (offset_number x) (offset_number y) tokens.0 (offset_number-near x) (offset_number-near y))
  part-atom n m reads (group e) tokens stand = part-expr n m reads e (around (IsToken n m) (yield_of_expr e) [] token.Close tokens.1).0 stand
  part-atom n m reads (unary f a) tokens stand =
      let part = part-expr n m reads a (around (IsToken n m) (yield_of_expr a) [] token.Close tokens.1.1).0 stand in
      record { over = over-unary (length reads) f (tree_of_expr reads a) part.over; own_reads = part.own_reads }
  part-atom n m reads (binary f a b) tokens stand =
      let parts = around (IsToken n m) (yield_of_expr a) (yield_of_expr b ++ token.Close ∷ []) token.Comma tokens.1.1 in
      let last = around (IsToken n m) (yield_of_expr b) [] token.Close parts.1 in
      let own = both (Stands reads) (reads_of_expr a) (reads_of_expr b) stand in
      part-two n m reads (reads_of_expr a) (reads_of_expr b) (tree_of_expr reads a) (tree_of_expr reads b) (tree_of_binary f (tree_of_expr reads a) (tree_of_expr reads b))
      (over-binary (length reads) f (tree_of_expr reads a) (tree_of_expr reads b)) (part-expr n m reads a parts.0 own.0) (part-expr n m reads b last.0 own.1)
  part-atom n m reads (ternary f a b c) tokens stand =
      let parts = around (IsToken n m) (yield_of_expr a) (yield_of_expr b ++ (token.Comma ∷ (yield_of_expr c ++ token.Close ∷ []))) token.Comma tokens.1.1 in
      let rest = around (IsToken n m) (yield_of_expr b) (yield_of_expr c ++ token.Close ∷ []) token.Comma parts.1 in
      let last = around (IsToken n m) (yield_of_expr c) [] token.Close rest.1 in
      let own = both (Stands reads) (reads_of_expr a) (reads_of_expr b ++ reads_of_expr c) stand in
      let others = both (Stands reads) (reads_of_expr b) (reads_of_expr c) own.1 in
      let first = part-expr n m reads a parts.0 own.0 in
      let second = part-expr n m reads b rest.0 others.0 in
      let third = part-expr n m reads c last.0 others.1 in
      record {
        over = over-ternary (length reads) f (tree_of_expr reads a) (tree_of_expr reads b) (tree_of_expr reads c) first.over second.over third.over;
        own_reads = all-append (IsRead n m) (reads_of_expr a) (reads_of_expr b ++ reads_of_expr c) first.own_reads (all-append (IsRead n m) (reads_of_expr b) (reads_of_expr c) second.own_reads third.own_reads);
      }

-- ---- a text that is a formula

-- what is read can be evaluated, and its reads are among the names given
pub record IsSound (fields alarms : ℕ) (p : Parsed) : Type 0 where
  pub over : IsTrue (is_over (length p.reads) p.tree)
  pub reads : AreReads fields alarms p.reads

sound-derived : (fields alarms : ℕ) (e : Expr) → AllByRecursion (IsToken fields alarms) (yield_of_expr e) → IsSound fields alarms (formula_of e)
sound-derived fields alarms e tokens =
    let part = part-expr fields alarms (distinct_reads (reads_of_expr e)) e tokens (distinct_reads-stand (reads_of_expr e)) in
    record { over = part.over; reads = distinct_reads-among fields alarms (reads_of_expr e) part.own_reads }

sound-ok : (fields alarms : ℕ) (tangled : Bool) (tokens : List Placed) (end : ℕ) (read : Result Parsed FormulaFault) → AllByRecursion (IsToken fields alarms) (kinds tokens) → Outcome tangled tokens end read → IfOk read (IsSound fields alarms)
sound-ok fields alarms tangled tokens end read all (tangles a) = tt
sound-ok fields alarms tangled tokens end read all (is_faulty fault a b) = tt
sound-ok fields alarms tangled tokens end read all (ends_early a b c) = tt
sound-ok fields alarms tangled tokens end read all (is_deep e a b c) = tt
sound-ok fields alarms tangled tokens end read all (is_formula e a spelled c) = sound-derived fields alarms e (subst (AllByRecursion (IsToken fields alarms)) spelled all)

pub sound-outcome : (fields alarms : List (List ℕ)) (text : List ℕ) (p : Parsed) → OutcomeOf fields alarms text (Ok p) → IsSound (length fields) (length alarms) p
sound-outcome fields alarms text p outcome = sound-ok (length fields) (length alarms) _ (tokens_of fields alarms text) (length text) (Ok p) (tokens-all fields alarms text) outcome
