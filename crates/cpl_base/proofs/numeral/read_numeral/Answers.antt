use Rattle.std.proofs.Common.{ℕ, Bool, List, inl, inr, ap, ◌∙◌}
use Rattle.cpl_base.specs.Numerals.{cut_at, numeral_of, parts_of, parts_value}
use Rattle.cpl_base.proofs.NumeralsFacts.{numeral_of-bound, numeral_of-numeral, numeral_or_none}
use Rattle.cpl_base.proofs.numeral.read_numeral.Goals as goal

-- the three steps of the body are those of the definition
pub returns-clause-value : goal.returns-clause-value
unfolding numeral_of
returns-clause-value c =
    let value = parts_value c.args.places c.args.most in
    c.read_parts.ensures ∙ ap (value c.split_sign-minus.result.0) c.split_point.ensures ∙ ap (λ (s : Bool × List ℕ). value s.0 (parts_of s.1 (cut_at 46 s.1))) c.split_sign-minus.ensures

pub returns-clause-numeral : goal.returns-clause-numeral
returns-clause-numeral c n = returns-clause-value c ∙ numeral_of-numeral c.args.places c.args.most c.args.text.now n

pub returns-clause-other : goal.returns-clause-other
returns-clause-other c =
    elim (numeral_or_none c.args.places c.args.most c.args.text.now) [ inl n ↦ inl n | inr e ↦ inr (returns-clause-value c ∙ e) ]

pub returns-clause-within : goal.returns-clause-within
returns-clause-within c = rw (returns-clause-value c) (numeral_of-bound c.args.places c.args.most c.args.text.now)
