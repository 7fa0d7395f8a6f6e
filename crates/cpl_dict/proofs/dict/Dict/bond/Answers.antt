use Rattle.std.proofs.Common.{◌≡◌, ℕ, Bool, true, false, List, cond, subst, sym, ◌∙◌}
use Rattle.std.specs.Str.{bytes_eq}
use Rattle.cpl_dict.specs.Numbers.{have_common}
use Rattle.cpl_dict.proofs.KeptFacts.{IsAscending-places_from, have_common-places_from}
use Rattle.cpl_dict.specs.Dict.{Dictionary, are_synonyms, bond_of, is_among}
use Rattle.cpl_dict.specs.Kept.{IsAscending}
use Rattle.cpl_dict.specs.Numbers.{places_from}
use Rattle.cpl_dict.proofs.dict.Dict.bond.Goals as goal

pub have_common-requires-clause-a : goal.have_common-requires-clause-a
have_common-requires-clause-a c = subst (IsAscending 0) (sym c.calls_by_name.ensures) (IsAscending-places_from 0 (λ g. is_among g c.args.a.now) c.args.self.now.calls)

pub have_common-requires-clause-b : goal.have_common-requires-clause-b
have_common-requires-clause-b c = subst (IsAscending 0) (sym c.calls_by_name-2.ensures) (IsAscending-places_from 0 (λ g. is_among g c.args.b.now) c.args.self.now.calls)

-- names that aren't equal are synonyms exactly where the walk met
are_synonyms_by_numbers : (d : Dictionary) (a b : List ℕ) (xs ys : List ℕ) → xs ≡ places_from 0 (λ g. is_among g a) d.calls → ys ≡ places_from 0 (λ g. is_among g b) d.calls → have_common xs ys ≡ are_synonyms d a b
are_synonyms_by_numbers d a b xs ys is_a is_b = (λ j. have_common (is_a j) (is_b j)) ∙ have_common-places_from 0 (λ g. is_among g a) (λ g. is_among g b) d.calls

-- the bond of names that aren't equal
bond_of-apart : (d : Dictionary) (a b : List ℕ) (met : Bool) → false ≡ bytes_eq a b → met ≡ are_synonyms d a b → cond met 1 0 ≡ bond_of d a b
bond_of-apart d a b met differ is = λ j. cond (differ j) 2 (cond (is j) 1 0)

pub returns-then-have_common : goal.returns-then-have_common
returns-then-have_common c =
    bond_of-apart c.args.self.now c.args.a.now c.args.b.now true (sym c.if-eq.false ∙ c.eq.ensures)
    (sym c.if-have_common.true ∙ c.have_common.ensures ∙ are_synonyms_by_numbers c.args.self.now c.args.a.now c.args.b.now _ _ c.calls_by_name.ensures c.calls_by_name-2.ensures)

pub returns-else-have_common : goal.returns-else-have_common
returns-else-have_common c =
    bond_of-apart c.args.self.now c.args.a.now c.args.b.now false (sym c.if-eq.false ∙ c.eq.ensures)
    (sym c.if-have_common.false ∙ c.have_common.ensures ∙ are_synonyms_by_numbers c.args.self.now c.args.a.now c.args.b.now _ _ c.calls_by_name.ensures c.calls_by_name-2.ensures)
