use Rattle.std.proofs.Common.{[], ◌∷◌, ◌++◌, ℕ, List, sym, ap, ◌∙◌, append_assoc}
use Rattle.std.proofs.lemmas.List.{map_push}
use Rattle.std.specs.Borrow.{Bor}
use Rattle.cpl_base.specs.Words.{texts}
use Rattle.cpl_runseq.specs.RowWords.{arrow, arrow_words, word_if_any}
use Rattle.cpl_runseq.proofs.RowWordFacts.{cut_missed, cut_none, cut_some}
use Rattle.cpl_runseq.proofs.words.push_words.Goals as goal

pub loop-before-smaller : goal.loop-before-smaller
loop-before-smaller c = (cut_some c.loop-before.rest.now c.in-Some.before.now c.in-Some.after.now (sym c.in-Some.ensures)).1

pub loop-before-preserved : goal.loop-before-preserved
loop-before-preserved c =
    let so_far = texts c.loop-before.words.items in
    let before = c.in-Some.before.now in
    let left = arrow_words [] c.in-Some.after.now in
    let cut = cut_some c.loop-before.rest.now before c.in-Some.after.now (sym c.in-Some.ensures) in
    let pushed = ap texts c.in_ok-push.ensures.items ∙ map_push (λ (w : Bor (List ℕ)). w.now) _ _ in
    ap (λ (ws : List (List ℕ)). ws ++ left) (pushed ∙ ap (λ (ws : List (List ℕ)). ws ++ arrow ∷ []) c.in_ok-push_if_any.ensures)
    ∙ append_assoc (so_far ++ word_if_any before) (arrow ∷ []) left ∙ append_assoc so_far (word_if_any before) (arrow ∷ left)
    ∙ ap (λ (ws : List (List ℕ)). so_far ++ ws) (sym cut.0) ∙ c.loop-before.invariant

pub returns : goal.returns
returns c =
    let so_far = texts c.loop-before.words.items in
    let none = cut_none c.loop-before.rest.now (cut_missed _ c.cut_arrow.result c.loop-before.rest.now c.cut_arrow.ensures c.in_default.not-Some) in
    c.in_ok-push_if_any-2.ensures ∙ ap (λ (ws : List (List ℕ)). so_far ++ ws) (sym none) ∙ c.loop-before.invariant
