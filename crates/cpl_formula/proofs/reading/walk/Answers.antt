-- Behind a token the rest of the text is read as the rest of its tokens.
use Rattle.std.proofs.Common.{◌≡◌, ◌-◌, length, take, drop, ◌∙◌, sym, arith}
use Rattle.std.proofs.lemmas.List.{length-drop, take_all}
use Rattle.cpl_formula.proofs.TextWalk.{goes_on}
use Rattle.cpl_formula.proofs.reading.walk.Goals as goal

pub loop-at-preserved : goal.loop-at-preserved
loop-at-preserved c =
    let token = c.first_token-token.ensures in
    record {
      rest = goes_on _ _ c.args.text.now c.loop-at.before c.loop-at.at c.first_token-token.result.1 c.first_token-token.result.0 (c.loop-at.reads.keys, c.loop-at.state) (c.step.new.reads.keys, c.in-Ok.next) c.loop-at-test.true (sym c.is_blank.ensures ∙ c.if-is_blank.false) token.token token.length token.some c.in-Ok.ensures.gives ∙ c.loop-at.invariant.rest;
      within =
          let all : take (length c.args.text.now - c.loop-at.at) (drop c.loop-at.at c.args.text.now) ≡ drop c.loop-at.at c.args.text.now = take_all _ _ (omega (arith, length-drop c.loop-at.at c.args.text.now)) in
          let fits = rw all at token.within in
          omega (arith, fits, length-drop c.loop-at.at c.args.text.now, c.loop-at-test.true);
      few = omega (arith, c.in-Ok.ensures.few, c.loop-at.invariant.few, token.some);
    }
