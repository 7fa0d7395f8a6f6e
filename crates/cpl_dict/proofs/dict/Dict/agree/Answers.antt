use Rattle.std.proofs.Common.{◌≡◌, Some, slice_get, rules, tests, ap, sym, ◌∙◌}
use Rattle.std.proofs.lemmas.Iterator.{YieldsList-from_slice}
use Rattle.std.proofs.lemmas.Iterator.Search.{all_from_yields_List}
use Rattle.std.specs.Cmp.{IsEquivalence}
use Rattle.std.specs.Cmp.Lexicographic.{nat_list_eq_equiv, options_equiv}
use Rattle.std.specs.Option.{option_copied}
use Rattle.cpl_dict.proofs.UnitsFacts.{list_all-by_first}
use Rattle.cpl_dict.specs.Dict.{Dictionary, same_units, units_of}
use Rattle.cpl_dict.proofs.dict.Dict.agree.Goals as goal

-- names with equal units, as an equivalence
same_units-laws : (d : Dictionary) → IsEquivalence (same_units d)
same_units-laws d =
    let laws = options_equiv nat_list_eq_equiv in
    record {
      refl = λ a. laws.refl (units_of d a);
      symm = λ a b. laws.symm (units_of d a) (units_of d b);
      congr = λ a b c. laws.congr (units_of d a) (units_of d b) (units_of d c);
    }

pub returns-in-Some : goal.returns-in-Some
returns-in-Some c =
    let d = c.args.self.now in
    let first = c.in-Some.first in
    let names = c.args.names.now in
    let at : slice_get names 0 ≡ Some first.now = sym c.first.ensures.value ∙ ap option_copied c.in-Some.is in
    let all = all_from_yields_List (same_units d first.now) _ _ c.all.result c.all.ensures.ran (YieldsList-from_slice names cc) (λ x b q k. search (rules, tests)) in
    all ∙ list_all-by_first (same_units d) (same_units-laws d) first.now names at
