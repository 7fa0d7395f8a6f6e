use Rattle.std.proofs.Common.{◌≡◌, ◌+◌, ◌-◌, eqb, true, get_or, suc, inl, inr, sym, ap, ◌∙◌, arith}
use Rattle.std.proofs.lemmas.Bool.{and_from, cases_lt, eq-eqb, false≢true}
use Rattle.std.proofs.lemmas.List.{take_rest}
use Rattle.cpl_runseq.specs.RowWords.{is_arrow}
use Rattle.cpl_runseq.proofs.RowWordFacts.{cut_arrow-found, cut_arrow-none}
use Rattle.cpl_runseq.proofs.words.cut_arrow.Goals as goal

pub returns-then-is_arrow : goal.returns-then-is_arrow
returns-then-is_arrow c =
    let text = c.args.text.now in
    let k = c.loop-end.end - 1 in
    let here : c.loop-end.end ≡ suc k = omega arith in
    let arrow_is : is_arrow (get_or text k 0) (get_or text (suc k) 0) ≡ true = ap (λ n. is_arrow (get_or text k 0) (get_or text n 0)) (sym here) ∙ sym c.is_arrow.ensures ∙ c.if-is_arrow.true in
    let found = cut_arrow-found text k (λ j l. c.loop-end.invariant j (omega arith)) (omega arith) arrow_is in
    let more : suc (suc k) ≡ c.loop-end.end + 1 = omega arith in
    rw take_rest (sym (rw more at found))

pub loop-end-preserved : goal.loop-end-preserved
loop-end-preserved c k before first second =
    let text = c.args.text.now in
    elim (cases_lt (suc k) c.loop-end.end) [
      | inl l ↦ c.loop-end.invariant k l first second
      | inr l ↦
          let here : c.loop-end.end ≡ suc k = omega arith in
          let at : c.loop-end.end - 1 ≡ k = omega arith in
          let yes : is_arrow (get_or text (c.loop-end.end - 1) 0) (get_or text c.loop-end.end 0) ≡ true =
          and_from (eqb (get_or text (c.loop-end.end - 1) 0) 45) (eqb (get_or text c.loop-end.end 0) 62) (eq-eqb _ 45 (ap (λ n. get_or text n 0) at ∙ first)) (eq-eqb _ 62 (ap (λ n. get_or text n 0) here ∙ second)) in
          false≢true (sym c.if-is_arrow.false ∙ c.is_arrow.ensures ∙ yes)
    ]

pub returns : goal.returns
returns c =
    sym (cut_arrow-none c.args.text.now (λ j l. c.loop-end.invariant j (omega arith)))
