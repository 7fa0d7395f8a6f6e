use Rattle.std.proofs.Common.{not, rules, tests, refl, sym, ap, ◌∙◌}
use Rattle.std.proofs.lemmas.Iterator.{YieldsList-from_slice}
use Rattle.std.proofs.lemmas.Iterator.Search.{find_from_yields_List}
use Rattle.cpl_base.specs.Words.{is_blank}
use Rattle.cpl_formula.proofs.TextSteps.{is_bracket, is_bracket-eq, is_bracketed-find}
use Rattle.cpl_formula.proofs.lexing.is_bracketed.Goals as goal

pub returns : goal.returns
returns c =
    let found = find_from_yields_List (λ b. not (is_blank b)) _ _ _ c.find.ensures.ran (YieldsList-from_slice c.args.text.now (cc)) (λ x b q k. search (rules, tests)) in
    c.eq.ensures ∙ is_bracket-eq c.find.result _ refl ∙ ap is_bracket found ∙ sym (is_bracketed-find c.args.text.now)
