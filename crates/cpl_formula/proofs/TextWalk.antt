-- Going over a text token by token, as its list of tokens is gone over.
use Rattle.std.proofs.Common.{◌≡◌, ℕ, zero, suc, pred, ◌+◌, ◌-◌, ◌<◌, true, false, List, [], ◌∷◌, length, get_or, take, drop, Ok, Err, refl, ap, ◌∙◌, sym, arith, add-one}
use Rattle.std.proofs.lemmas.List.{drop-drop, length-drop, take_all}
use Rattle.cpl_base.specs.Words.{is_blank}
use Rattle.cpl_formula.specs.Steps.{At, fault_at, step, walk}
use Rattle.cpl_formula.specs.Tokens.{first_token, token_length, tokens_from}
use Rattle.cpl_formula.specs.declared.fault.Stop.{Stop}
use Rattle.cpl_formula.specs.declared.tokens.Token.{Token}

-- bytes of a token that was taken are passed over
skip : (fields alarms : List (List ℕ)) (at taken : ℕ) (text : List ℕ) → tokens_from fields alarms at taken text ≡ tokens_from fields alarms (at + taken) 0 (drop taken text)
skip fields alarms at zero text = ap (λ n. tokens_from fields alarms n 0 text) (omega arith)
skip fields alarms at (suc taken) [] = refl
skip fields alarms at (suc taken) (c ∷ more) =
    skip fields alarms (suc at) taken more
    ∙ ap (λ n. tokens_from fields alarms n 0 (drop taken more)) (omega arith)

-- the tokens behind the first one, whose length is known
behind_first : (fields alarms : List (List ℕ)) (at n c : ℕ) (more : List ℕ) → 0 < n → tokens_from fields alarms (suc at) (pred n) more ≡ tokens_from fields alarms (at + n) 0 (drop n (c ∷ more))
behind_first fields alarms at zero c more some = absurd (omega arith)
behind_first fields alarms at (suc n) c more some =
    skip fields alarms (suc at) n more
    ∙ ap (λ k. tokens_from fields alarms k 0 (drop n more)) (omega arith)

-- a blank is passed over
pub over_blank : (fields alarms : List (List ℕ)) (at : ℕ) (text : List ℕ) → 0 < length text → is_blank (get_or text 0 0) ≡ true → tokens_from fields alarms at 0 text ≡ tokens_from fields alarms (at + 1) 0 (drop 1 text)
over_blank fields alarms at [] some blank = absurd (omega arith)
over_blank fields alarms at (c ∷ more) some blank = rw (blank, add-one) refl

-- reading goes on behind a token with which a formula goes on
pub over_token : (fields alarms : List (List ℕ)) (before at : ℕ) (reached next : At) (text : List ℕ) → 0 < length text → is_blank (get_or text 0 0) ≡ false → 0 < token_length text → step reached.0 reached.1 (first_token fields alarms text) ≡ Ok next → walk before reached (tokens_from fields alarms at 0 text) ≡ walk at next (tokens_from fields alarms (at + token_length text) 0 (drop (token_length text) text))
over_token fields alarms before at reached next [] some token long goes = absurd (omega arith)
over_token fields alarms before at reached next (c ∷ more) some token long goes =
    rw (token, goes) (ap (walk at next) (behind_first fields alarms at (token_length (c ∷ more)) c more long))

-- reading stops at a token with which none does
pub at_fault : (fields alarms : List (List ℕ)) (before at : ℕ) (reached : At) (stop : Stop) (text : List ℕ) → 0 < length text → is_blank (get_or text 0 0) ≡ false → step reached.0 reached.1 (first_token fields alarms text) ≡ Err stop → walk before reached (tokens_from fields alarms at 0 text) ≡ Err (fault_at stop before at)
at_fault fields alarms before at reached stop [] some token stops = absurd (omega arith)
at_fault fields alarms before at reached stop (c ∷ more) some token stops = rw (token, stops) refl

-- the same, of what stands in a text behind a place
pub goes_on : (fields alarms : List (List ℕ)) (text : List ℕ) (before at n : ℕ) (t : Token) (reached next : At) → at < length text → is_blank (get_or (take (length text - at) (drop at text)) 0 0) ≡ false → t ≡ first_token fields alarms (take (length text - at) (drop at text)) → n ≡ token_length (take (length text - at) (drop at text)) → 0 < n → step reached.0 reached.1 t ≡ Ok next → walk at next (tokens_from fields alarms (at + n) 0 (drop (at + n) text)) ≡ walk before reached (tokens_from fields alarms at 0 (drop at text))
goes_on fields alarms text before at n t reached next below blank token long some goes =
    let all : take (length text - at) (drop at text) ≡ drop at text = take_all _ _ (omega (arith, length-drop at text)) in
    let rest_blank : is_blank (get_or (drop at text) 0 0) ≡ false = ap (λ l. is_blank (get_or l 0 0)) (sym all) ∙ blank in
    let rest_long : token_length (drop at text) ≡ n = ap token_length (sym all) ∙ sym long in
    let rest_token : first_token fields alarms (drop at text) ≡ t = ap (first_token fields alarms) (sym all) ∙ sym token in
    let over = over_token fields alarms before at reached next (drop at text) (omega (arith, length-drop at text)) rest_blank (rw rest_long some) (ap (step reached.0 reached.1) rest_token ∙ goes) in
    ap (λ l. walk at next (tokens_from fields alarms (at + n) 0 l)) (sym (drop-drop n at text))
    ∙ ap (λ k. walk at next (tokens_from fields alarms (at + k) 0 (drop k (drop at text)))) (sym rest_long)
    ∙ sym over
