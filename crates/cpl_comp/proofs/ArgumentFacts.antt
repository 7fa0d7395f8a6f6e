-- The places of a call's arguments in the text of its rule.
use Rattle.std.proofs.Common.{◌≡◌, ℕ, suc, ◌+◌, ◌<◌, ◌≤◌, List, [], ◌∷◌, length, get_or, drop, arith, length-append, ap, add-one}
use Rattle.std.proofs.Math.Seq.{drop-cons}
use Rattle.std.proofs.lemmas.List.{length-drop}
use Rattle.std.specs.List.{join_with_byte}

-- words are as long as their first, at least
join-first : (word : List ℕ) (words : List (List ℕ)) → length word ≤ length (join_with_byte 32 (word ∷ words))
join-first word [] = omega arith
join-first word (next ∷ words) = omega (arith, length-append word (32 ∷ join_with_byte 32 (next ∷ words)))

-- and longer by a blank and the others, where there are others
join-others : (word : List ℕ) (words : List (List ℕ)) → 0 < length words → length word + 1 + length (join_with_byte 32 words) ≤ length (join_with_byte 32 (word ∷ words))
join-others word [] some = absurd (omega arith)
join-others word (next ∷ words) some = omega (arith, length-append word (32 ∷ join_with_byte 32 (next ∷ words)))

-- what is left of a text at a word
pub join-word : (words : List (List ℕ)) (i : ℕ) (word : List ℕ) → i < length words → word ≡ get_or words i word → length word ≤ length (join_with_byte 32 (drop i words))
join-word words i word there is =
    let first = join-first (get_or words i word) (drop (suc i) words) in
    let same = ap length is in
    rw (drop-cons words i word there) (omega (arith, first, same))

-- and behind it
pub join-next : (words : List (List ℕ)) (i : ℕ) (word : List ℕ) → i + 1 < length words → word ≡ get_or words i word
    → length word + 1 + length (join_with_byte 32 (drop (i + 1) words)) ≤ length (join_with_byte 32 (drop i words))
join-next words i word there is =
    let here : i < length words = omega arith in
    let behind : 0 < length (drop (suc i) words) = omega (arith, length-drop (suc i) words) in
    let others = join-others (get_or words i word) (drop (suc i) words) behind in
    let same = ap length is in
    let next = ap (λ k. length (join_with_byte 32 (drop k words))) (add-one i) in
    rw (drop-cons words i word here) (omega (arith, others, same, next))
