use Rattle.std.proofs.Common.{◌≡◌, ◌-◌, length, take, drop, sym, ◌∙◌, arith, ◌++◌, ◌∷◌, []}
use Rattle.std.proofs.lemmas.List.{take_all, length-drop}
use Rattle.cpl_comp.specs.Views.{phase_scope_view}
use Rattle.cpl_comp.proofs.TermFacts.{terms_with-two}
use Rattle.cpl_comp.proofs.phase_rows.terms_of.Goals as goal

pub returns-in_default-term_of : goal.returns-in_default-term_of
returns-in_default-term_of c =
    let two = terms_with-two (phase_scope_view c.args.scope) c.loop-rest.terms.items c.loop-rest.rest.now c.first-item.result c.second-item.result c.in-len2-up.len_at_least c.first-item.is c.second-item.is in
    let none = rw (← c.in_default-term_of.ensures) at two in
    sym none ∙ c.loop-rest.invariant

pub loop-rest-preserved : goal.loop-rest-preserved
loop-rest-preserved c =
    let rest = c.loop-rest.rest.now in
    let two = terms_with-two (phase_scope_view c.args.scope) c.loop-rest.terms.items rest c.first-item.result c.second-item.result c.in-len2-up.len_at_least c.first-item.is c.second-item.is in
    let some = rw (← c.in-Some.ensures) at two in
    let all : take (length rest - 2) (drop 2 rest) ≡ drop 2 rest = take_all _ _ (omega (arith, length-drop 2 rest)) in
    let pushed : c.push.new.self.items ≡ c.loop-rest.terms.items ++ c.in-Some.term ∷ [] = c.in_ok-push.ensures.items in
    rw (all, pushed) (sym some ∙ c.loop-rest.invariant)
