-- Texts joined by a byte, and one more behind them.
use Rattle.std.proofs.Common.{◌≡◌, ℕ, ◌+◌, ◌<◌, List, [], ◌∷◌, ◌++◌, length, get_or, take, refl, sym, ap, ◌∙◌, append_assoc, decimal, codes}
use Rattle.std.proofs.lemmas.List.{take_more}
use Rattle.std.specs.List.{join_with_byte}
use Rattle.cpl_report.specs.Refusals.{refusal_name, refusal_words}

-- one more text at the end
join-push : (at : ℕ) (first : List ℕ) (more : List (List ℕ)) (word : List ℕ) → join_with_byte at (first ∷ (more ++ word ∷ [])) ≡ join_with_byte at (first ∷ more) ++ (at ∷ word)
join-push at first [] word = refl
join-push at first (next ∷ more) word =
    rw (join-push at next more word) (sym (append_assoc first (at ∷ join_with_byte at (next ∷ more)) (at ∷ word)))

-- the line so far, with the next word behind a blank
pub line-more : (number : ℕ) (words : List (List ℕ)) (i : ℕ) (word bytes old blank new : List ℕ) → i < length words → word ≡ get_or words i word → bytes ≡ word → old ≡ join_with_byte 32 (refusal_words number (take i words)) → blank ≡ old ++ 32 ∷ [] → new ≡ blank ++ bytes → new ≡ join_with_byte 32 (refusal_words number (take (i + 1) words))
line-more number words i word bytes old blank new within at same is blank_is new_is =
    let words_are = take_more words i word within in
    let front = decimal number ∷ refusal_name number ∷ take i words in
    new_is
    ∙ ap (λ t. t ++ bytes) (blank_is ∙ ap (λ t. t ++ 32 ∷ []) is)
    ∙ append_assoc (join_with_byte 32 (codes "refused" ∷ front)) (32 ∷ []) bytes
    ∙ ap (λ t. join_with_byte 32 (codes "refused" ∷ front) ++ 32 ∷ t) (same ∙ at)
    ∙ sym (join-push 32 (codes "refused") front (get_or words i word))
    ∙ ap (λ ws. join_with_byte 32 (refusal_words number ws)) (sym words_are)
