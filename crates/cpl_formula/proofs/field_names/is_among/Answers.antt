use Rattle.std.proofs.Common.{◌∙◌, rules, sym, tests}
use Rattle.std.proofs.lemmas.Iterator.{YieldsList-from_slice}
use Rattle.std.proofs.lemmas.Iterator.Search.{any_from_yields_List}
use Rattle.std.specs.Str.{bytes_eq}
use Rattle.cpl_base.proofs.WordsFacts.{list_any-texts}
use Rattle.cpl_formula.proofs.field_names.is_among.Goals as goal

pub returns : goal.returns
returns c =
    let word = c.args.word.now in
    any_from_yields_List (λ name. bytes_eq name.now word) _ _ _ c.any.ensures.ran (YieldsList-from_slice c.args.words.now cc) (λ x b q k. search (rules, tests))
    ∙ sym (list_any-texts (λ name. bytes_eq name word) c.args.words.now)
