use Rattle.std.proofs.Common.{◌≡◌, ◌+◌, ◌∙◌, ◌++◌, ◌∷◌, [], ℕ, List, Option, IfSome, ap, arith, drop, length, length-append, subst, sym}
use Rattle.std.specs.List.{All, zip}
use Rattle.std.proofs.lemmas.List.{drop_more, take_all}
use Rattle.cpl_base.specs.Outside.{Files}
use Rattle.cpl_build.specs.Causes.{IsAmong}
use Rattle.cpl_build.specs.WeightFiles.{IsWeighed, file_asked, files_asked_with, record_total, weights_with}
use Rattle.cpl_build.proofs.FileFacts.{among-behind, asked-step, told-both, total-more, weights-step}
use Rattle.cpl_build.proofs.ListFacts.{zip-next}
use Rattle.cpl_sequence.specs.declared.link_line.LinkLine.{LinkLine}
use Rattle.cpl_smm.specs.Rows.{Table}
use Rattle.cpl_build.proofs.weighing.weights_in.Goals as goal

pub loop-line-preserved : goal.loop-line-preserved
loop-line-preserved g c =
    let comps = c.args.comps.now in
    let lines = c.args.lines.now in
    let now = c.loop-line.invariant in
    let k = c.loop-line.line-index in
    let spent = c.loop-line.spent in
    let before = c.loop-line.weights.items in
    let line = c.line-item.result in
    let rest = drop (k + 1) lines in
    let given = c.in_ok-given.given in
    let answer = c.in_ok-given.ensures.answer.value in
    let told = c.in_ok-given.ensures.told in
    let pushed = c.in_ok-push.ensures.items in
    let counted = c.record_count-spent.ensures in
    let step : drop k lines ≡ line ∷ rest = drop_more lines k line c.loop-line-test.true ∙ ap (λ (x : LinkLine). x ∷ rest) (sym c.line-item.is) in
    record {
      told = told ∙ now.told;
      quiet = answer.0 ∙ now.quiet;
      spent = (λ i. now.spent i + counted i) ∙ sym (total-more before given) ∙ ap record_total (sym pushed);
      few = omega (arith, counted, c.in_ok-given.ensures.within);
      count = let longer = ap (λ (xs : List (Option Table)). length xs) pushed ∙ length-append before (given ∷ []) in omega (arith, longer, now.count);
      rest = subst (λ t. IfSome t (λ (files : Files). weights_with files comps c.push.new.self.items rest ≡ weights_with files comps [] lines)) (sym told)
          (told-both (g.H.Shelf.files c.loop-line.shelf)
          (λ files is all. ap (λ (ws : List (Option Table)). weights_with files comps ws rest) pushed ∙ sym (weights-step files comps before spent line rest given now.spent is) ∙ ap (weights_with files comps before) (sym step) ∙ all)
          answer.1 now.rest);
      asked = subst (λ t. IfSome t (λ (files : Files). (name : List ℕ) → IsAmong name (files_asked_with files comps c.push.new.self.items rest) → IsAmong name (files_asked_with files comps [] lines))) (sym told)
          (told-both (g.H.Shelf.files c.loop-line.shelf)
          (λ files is all name among.
          let behind : IsAmong name (files_asked_with files comps (before ++ given ∷ []) rest) = subst (λ (ws : List (Option Table)). IsAmong name (files_asked_with files comps ws rest)) pushed among in
          let here : files_asked_with files comps before (drop k lines) ≡ file_asked line ++ files_asked_with files comps (before ++ given ∷ []) rest =
          ap (files_asked_with files comps before) step ∙ asked-step files comps before spent line rest given now.spent is in
          all name (subst (IsAmong name) (sym here) (among-behind name (file_asked line) (files_asked_with files comps (before ++ given ∷ []) rest) behind)))
          answer.1 now.asked);
      each = zip-next (IsWeighed comps) lines before c.push.new.self.items k line given c.loop-line-test.true c.line-item.is now.count pushed now.each c.in_ok-given.ensures.weighed;
    }

pub returns-clause-each : goal.returns-clause-each
returns-clause-each g c =
    let all = take_all c.loop-line.line-index c.args.lines.now (omega arith) in
    subst (λ (lines : List LinkLine). All (IsWeighed c.args.comps.now) (zip lines c.loop-line.weights.items)) all c.loop-line.invariant.each
