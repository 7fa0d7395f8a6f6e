-- A text that is written piece by piece: what is left, and what is written so far.
use Rattle.std.proofs.Common.{◌≡◌, ℕ, ◌+◌, ◌-◌, ◌≤◌, List, ◌++◌, length, take, drop, Option, Some, None, refl, sym, ap, ◌∙◌, arith, length-drop, append_assoc}
use Rattle.std.proofs.lemmas.List.{drop-drop}
use Rattle.std.proofs.Math.Seq.{take-add}
use Rattle.cpl_base.specs.Outside.{bytes_after}

-- how much of the text is written, where this much is left
abbrev pub done : List ℕ → List ℕ → ℕ
done bytes rest = length bytes - length rest

-- after n more bytes
done_more : (bytes rest : List ℕ) (n : ℕ) → length rest ≤ length bytes → n ≤ length rest → done bytes (drop n rest) ≡ done bytes rest + n
done_more bytes rest n shorter fits = omega (arith, length-drop n rest)

-- what is left after n more bytes
pub rest_more : (bytes rest : List ℕ) (n : ℕ) → rest ≡ drop (done bytes rest) bytes → length rest ≤ length bytes → n ≤ length rest → drop n rest ≡ drop (done bytes (drop n rest)) bytes
rest_more bytes rest n is shorter fits =
    ap (drop n) is ∙ drop-drop n (done bytes rest) bytes ∙ ap (λ k. drop k bytes) (sym (done_more bytes rest n shorter fits))

-- what is written after n more bytes
written_more : (bytes rest : List ℕ) (n : ℕ) → rest ≡ drop (done bytes rest) bytes → length rest ≤ length bytes → n ≤ length rest → take (done bytes rest) bytes ++ take n rest ≡ take (done bytes (drop n rest)) bytes
written_more bytes rest n is shorter fits =
    ap (λ r. take (done bytes rest) bytes ++ take n r) is ∙ sym (take-add (done bytes rest) n bytes) ∙ ap (λ k. take k bytes) (sym (done_more bytes rest n shorter fits))

-- two pieces, one after the other
bytes_after-bytes_after : (told : Option (List ℕ)) (a b : List ℕ) → bytes_after (bytes_after told a) b ≡ bytes_after told (a ++ b)
bytes_after-bytes_after None a b = refl
bytes_after-bytes_after (Some s) a b = ap Some (append_assoc s a b)

-- what a stream tells after n more bytes, where it told before that all but the rest was written
pub told_more : (bytes rest : List ℕ) (n : ℕ) (first before after : Option (List ℕ)) → rest ≡ drop (done bytes rest) bytes → length rest ≤ length bytes → n ≤ length rest → before ≡ bytes_after first (take (done bytes rest) bytes) → after ≡ bytes_after before (take n rest) → after ≡ bytes_after first (take (done bytes (drop n rest)) bytes)
told_more bytes rest n first before after is shorter fits so_far more =
    more ∙ ap (λ told. bytes_after told (take n rest)) so_far
    ∙ bytes_after-bytes_after first (take (done bytes rest) bytes) (take n rest)
    ∙ ap (bytes_after first) (written_more bytes rest n is shorter fits)
