use Rattle.std.proofs.Common.{◌∙◌, ◌++◌, ◌∷◌, [], List, ap, arith, length, length-append, refl, subst, sym}
use Rattle.std.specs.List.{All}
use Rattle.std.specs.Vec.Iter.{into_iter_items}
use Rattle.std.proofs.lemmas.List.Elements.{All-nil, All-push, All-rest}
use Rattle.cpl_base.specs.ResultChain.{◌>>=◌}
use Rattle.cpl_build.specs.Outlines.{realised_with}
use Rattle.cpl_build.specs.declared.components.Candidate.{Candidate}
use Rattle.cpl_comp.specs.Components.{IsAskedOver, IsComponent, limits_of}
use Rattle.cpl_comp.specs.declared.component.Comp.{Comp}
use Rattle.cpl_build.proofs.realising.realised_in.Goals as goal

pub loop-candidate-init : goal.loop-candidate-init
loop-candidate-init c =
    let all = c.into_iter-candidate-iterator.ensures.into_iter_gives.0 in
    let none = c.in_ok-comps.ensures.items in
    rw (all, none) (record { asked = c.requires; rest = refl; count = omega arith; each = All-nil (IsComponent (limits_of c.args.pets c.args.alarms.now c.args.signs.now)) })

pub loop-candidate-preserved : goal.loop-candidate-preserved
loop-candidate-preserved c =
    let items = c.args.items.now in
    let pets = c.args.pets in
    let alarms = c.args.alarms.now in
    let signs = c.args.signs.now in
    let rest = into_iter_items c.next.new.self in
    let before = c.loop-candidate.comps.items in
    let candidate = c.in-Some.candidate in
    let comp = c.in_ok-comp.comp in
    let steps = c.in-Some.ensures.steps.0 in
    let now = c.loop-candidate.invariant in
    let pushed = c.in_ok-push.ensures.items in
    let then = λ (comp : Comp). realised_with items pets alarms signs (before ++ comp ∷ []) rest in
    let P : Candidate → Type 0 = λ candidate. IsAskedOver candidate.advertised pets (length alarms) (length signs) in
    let Q : Comp → Type 0 = IsComponent (limits_of pets alarms signs) in
    record {
      asked = All-rest P candidate rest (into_iter_items c.loop-candidate.candidate-iterator) steps now.asked;
      rest = ap (λ (comps : List Comp). realised_with items pets alarms signs comps rest) pushed
          ∙ sym (ap (λ r. r >>= then) c.in_ok-comp.ensures.answer.value)
          ∙ ap (λ (candidates : List Candidate). realised_with items pets alarms signs before candidates) (sym steps)
          ∙ now.rest;
      count = let left = ap (λ (xs : List Candidate). length xs) steps in let longer = ap (λ (xs : List Comp). length xs) pushed ∙ length-append before (comp ∷ []) in omega (arith, left, longer, now.count);
      each = subst (All Q) (sym pushed) (All-push Q before comp now.each c.in_ok-comp.ensures.component);
    }
