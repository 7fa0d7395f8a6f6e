-- A cursor over the operations of a system gives each in its turn.
use Rattle.std.proofs.Common.{◌≡◌, ℕ, zero, suc, ◌+◌, ◌<◌, ◌≤◌, List, [], ◌∷◌, ◌++◌, drop, length, get_or, Some, None, Option, ap, ◌∙◌, sym, refl, subst, arith}
use Rattle.std.specs.Prelude.{IfSome, MatchOption, slice_get}
use Rattle.std.proofs.lemmas.List.{drop_all, drop_more}
use Rattle.cpl_sequence.specs.Remainder.{IsCursorOf, Spot, remainder}
use Rattle.cpl_sequence.specs.declared.op.Op.{Op}
use Rattle.cpl_sequence.proofs.ListFacts.{All-at}
use Rattle.cpl_script.specs.Couplings.{Coupling}
use Rattle.cpl_script.specs.OpCursors.{IsOpCursorOf, OpSpot, op_remainder}
use Rattle.cpl_script.specs.Operations.{init_ops, ops_of}
use Rattle.cpl_script.specs.Sound.{IsCoupling, IsOpOf}

-- ---- what is left of a list

-- one member and the rest
record StandsAt {X : Type 0} (xs : List X) (n : ℕ) (x : X) (rest : List X) : Type 0 where
  here : slice_get xs n ≡ Some x
  behind : drop (n + 1) xs ≡ rest

-- what is left of a list begins with what stands there
drop-some : {X : Type 0} (xs : List X) (n : ℕ) (x : X) (rest : List X) → drop n xs ≡ x ∷ rest → StandsAt xs n x rest
drop-some [] zero x rest is = absurd (cc)
drop-some [] (suc n) x rest is = absurd (cc)
drop-some (y ∷ ys) zero x rest is = record { here = (let e : y ≡ x = cc in ap (λ z. Some z) e); behind = (let e : ys ≡ rest = cc in e) }
drop-some (y ∷ ys) (suc n) x rest is =
    let more = drop-some ys n x rest is in
    let next : suc n + 1 ≡ suc (n + 1) = omega arith in
    record { here = more.here; behind = ap (λ k. drop k (y ∷ ys)) next ∙ more.behind }

-- where nothing is left nothing stands
record EndsAt {X : Type 0} (xs : List X) (n : ℕ) : Type 0 where
  here : slice_get xs n ≡ None
  behind : drop (n + 1) xs ≡ []

-- nothing is left
drop-none : {X : Type 0} (xs : List X) (n : ℕ) → drop n xs ≡ [] → EndsAt xs n
drop-none [] zero is = record { here = refl; behind = refl }
drop-none [] (suc n) is = record { here = refl; behind = drop_all (suc n + 1) [] (omega arith) }
drop-none (y ∷ ys) zero is = absurd (cc)
drop-none (y ∷ ys) (suc n) is =
    let more = drop-none ys n is in
    let next : suc n + 1 ≡ suc (n + 1) = omega arith in
    record { here = more.here; behind = ap (λ k. drop k (y ∷ ys)) next ∙ more.behind }

-- ---- what a step gives

-- What holds of a step of a cursor.
pub record IsGiven (coupling : Coupling) (old new : OpSpot) (result : Option Op) : Type 0 where
  pub of : IsOpCursorOf coupling new
  pub in_order : (k : ℕ) → op_remainder coupling old ≡ drop k (ops_of coupling) → (result ≡ slice_get (ops_of coupling) k) × (op_remainder coupling new ≡ drop (k + 1) (ops_of coupling))
  pub op : IfSome result (IsOpOf coupling)

-- an operation
given-some : (coupling : Coupling) (old new : OpSpot) (op : Op) → IsCoupling coupling → IsOpCursorOf coupling old → IsCursorOf coupling.sequence new.spot → op_remainder coupling old ≡ op ∷ op_remainder coupling new → IsGiven coupling old new (Some op)
given-some coupling old new op sound of run gives =
    let ops = ops_of coupling in
    let at = λ (k : ℕ) (is : op_remainder coupling old ≡ drop k ops). drop-some ops k op (op_remainder coupling new) (sym is ∙ gives) in
    let here = at of.given of.rest in
    record {
      of = record { run = run; given = of.given + 1; rest = sym here.behind };
      in_order = λ k is. (sym (at k is).here, sym (at k is).behind);
      op = All-at (IsOpOf coupling) ops of.given op sound.ops here.here;
    }

-- the end
given-none : (coupling : Coupling) (old new : OpSpot) → IsOpCursorOf coupling old → IsCursorOf coupling.sequence new.spot → op_remainder coupling old ≡ [] → op_remainder coupling new ≡ [] → IsGiven coupling old new None
given-none coupling old new of run none none_after =
    let ops = ops_of coupling in
    let at = λ (k : ℕ) (is : op_remainder coupling old ≡ drop k ops). drop-none ops k (sym is ∙ none) in
    record {
      of = record { run = run; given = of.given; rest = none_after ∙ sym none ∙ of.rest };
      in_order = λ k is. (sym (at k is).here, none_after ∙ sym (at k is).behind);
      op = tt;
    }

-- an operation of the initialisation
pub init-given : (coupling : Coupling) (old : OpSpot) (place : ℕ) (spot : Spot) (ops : List Op) (d : Op) → IsCoupling coupling → IsOpCursorOf coupling old → old ≡ record { place = place; spot = spot } → ops ≡ init_ops coupling.comps coupling.links coupling.init → place < length ops → IsGiven coupling old (record { place = place + 1; spot = spot }) (Some (get_or ops place d))
init-given coupling old place spot ops d sound of stands ops_are inside =
    let new : OpSpot = record { place = place + 1; spot = spot } in
    let rest = remainder coupling.sequence spot in
    let gives : op_remainder coupling old ≡ get_or ops place d ∷ op_remainder coupling new =
    ap (op_remainder coupling) stands
    ∙ ap (λ (xs : List Op). drop place xs ++ rest) (sym ops_are)
    ∙ ap (λ (xs : List Op). xs ++ rest) (drop_more ops place d inside)
    ∙ ap (λ (xs : List Op). get_or ops place d ∷ (drop (place + 1) xs ++ rest)) ops_are in
    let run = subst (λ (at : OpSpot). IsCursorOf coupling.sequence at.spot) stands of.run in
    given-some coupling old new (get_or ops place d) sound of run gives

-- an operation of the run sequence, or the end
pub run-given : (coupling : Coupling) (old : OpSpot) (place : ℕ) (spot next : Spot) (ops : List Op) (result : Option Op) → IsCoupling coupling → IsOpCursorOf coupling old → old ≡ record { place = place; spot = spot } → ops ≡ init_ops coupling.comps coupling.links coupling.init → length ops ≤ place → IsCursorOf coupling.sequence next
    → MatchOption result ((remainder coupling.sequence spot ≡ []) × (remainder coupling.sequence next ≡ [])) (λ op. remainder coupling.sequence spot ≡ op ∷ remainder coupling.sequence next)
    → IsGiven coupling old (record { place = place; spot = next }) result
run-given coupling old place spot next ops None sound of stands ops_are past run gives =
    let none = ap (drop place) (sym ops_are) ∙ drop_all place ops past in
    let before : op_remainder coupling old ≡ remainder coupling.sequence spot = ap (op_remainder coupling) stands ∙ ap (λ (xs : List Op). xs ++ remainder coupling.sequence spot) none in
    let after : op_remainder coupling (record { place = place; spot = next }) ≡ remainder coupling.sequence next = ap (λ (xs : List Op). xs ++ remainder coupling.sequence next) none in
    given-none coupling old (record { place = place; spot = next }) of run (before ∙ gives.0) (after ∙ gives.1)
run-given coupling old place spot next ops (Some op) sound of stands ops_are past run gives =
    let none = ap (drop place) (sym ops_are) ∙ drop_all place ops past in
    let before : op_remainder coupling old ≡ remainder coupling.sequence spot = ap (op_remainder coupling) stands ∙ ap (λ (xs : List Op). xs ++ remainder coupling.sequence spot) none in
    let after : op_remainder coupling (record { place = place; spot = next }) ≡ remainder coupling.sequence next = ap (λ (xs : List Op). xs ++ remainder coupling.sequence next) none in
    given-some coupling old (record { place = place; spot = next }) op sound of run (before ∙ gives ∙ ap (λ (xs : List Op). op ∷ xs) (sym after))
