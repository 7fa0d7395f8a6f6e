-- What stands behind the beginning of a text, and texts joined by a byte.
use Rattle.std.proofs.Common.{◌≡◌, ℕ, ◌+◌, ◌<◌, ◌≤◌, Bool, true, false, cond, ◌||◌, List, [], ◌∷◌, ◌++◌, length, get_or, take, drop, Option, Some, None, option_map, refl, sym, ap, inl, inr, arith, append_assoc}
use Rattle.std.proofs.lemmas.Bool.{cases_eq, eq-eqb, ne_eqb}
use Rattle.std.proofs.lemmas.List.{length-map, length-take-le, map_more}
use Rattle.std.specs.Borrow.{Bor}
use Rattle.std.specs.List.{join_with_byte, list_any}
use Rattle.std.specs.Option.{MatchOption}
use Rattle.std.specs.Str.{bytes_eq}
use Rattle.cpl_base.specs.Chain.{◌>>=◌}
use Rattle.cpl_base.specs.Words.{rest_behind, texts}

-- what stands behind a beginning, by the bytes in front
rest_behind-is : (beginning text : List ℕ) → rest_behind beginning text ≡ cond (bytes_eq (take (length beginning) text) beginning) (Some (drop (length beginning) text)) None
rest_behind-is [] text = refl
rest_behind-is (c ∷ cs) [] = refl
rest_behind-is (c ∷ cs) (d ∷ ds) =
    elim (cases_eq c d) [
      | inl same ↦ rw (eq-eqb c d same, eq-eqb d c (sym same)) (rest_behind-is cs ds)
      | inr other ↦ rw (ne_eqb c d other, ne_eqb d c (λ e. other (sym e))) refl
    ]

-- what `strip_prefix` says of a text
pub rest_behind-stripped : (beginning text : List ℕ) (found : Option (Bor (List ℕ))) → MatchOption found (bytes_eq (take (length beginning) text) beginning ≡ false) (λ rest. (bytes_eq (take (length beginning) text) beginning ≡ true) × (rest.now ≡ drop (length beginning) text) × (length rest.now + length beginning ≡ length text)) → option_map (λ rest. rest.now) found ≡ rest_behind beginning text
rest_behind-stripped beginning text None differs = rw (rest_behind-is beginning text, differs) refl
rest_behind-stripped beginning text (Some rest) same = rw (rest_behind-is beginning text, same.0, same.1) refl

-- what stands behind two texts, one after the other
pub rest_behind-append : (first second text : List ℕ) → rest_behind (first ++ second) text ≡ (rest_behind first text >>= rest_behind second)
rest_behind-append [] second text = refl
rest_behind-append (c ∷ cs) second [] = refl
rest_behind-append (c ∷ cs) second (d ∷ ds) =
    elim (cases_eq c d) [
      | inl same ↦ rw (eq-eqb c d same) (rest_behind-append cs second ds)
      | inr other ↦ rw (ne_eqb c d other) refl
    ]

-- whether some text passes a test
pub list_any-texts : (test : List ℕ → Bool) (words : List (Bor (List ℕ))) → list_any test (texts words) ≡ list_any (λ word. test word.now) words
list_any-texts test [] = refl
list_any-texts test (word ∷ words) = ap (λ others. test word.now || others) (list_any-texts test words)

-- one more text at the end
join-push : (at : ℕ) (front : List (List ℕ)) (word : List ℕ) → 0 < length front → join_with_byte at (front ++ word ∷ []) ≡ join_with_byte at front ++ (at ∷ word)
join-push at [] word some = absurd (omega arith)
join-push at (x ∷ []) word some = refl
join-push at (x ∷ y ∷ more) word some =
    rw (join-push at (y ∷ more) word (omega arith)) (sym (append_assoc x (at ∷ join_with_byte at (y ∷ more)) (at ∷ word)))

-- the first text alone
pub join-first : (at : ℕ) (words : List (Bor (List ℕ))) (place : ℕ) (word : Bor (List ℕ)) → place < length words → place ≤ 0 → join_with_byte at (texts (take (place + 1) words)) ≡ join_with_byte at (texts (take place words)) ++ (get_or words place word).now
join-first at words place word inside first =
    let none : place ≡ 0 = omega arith in
    rw (map_more (λ word. word.now) words place word inside, none) refl

-- a text behind the first ones
pub join-next : (at : ℕ) (words : List (Bor (List ℕ))) (place : ℕ) (word : Bor (List ℕ)) → place < length words → 0 < place → join_with_byte at (texts (take (place + 1) words)) ≡ (join_with_byte at (texts (take place words)) ++ at ∷ []) ++ (get_or words place word).now
join-next at words place word inside some =
    let front = texts (take place words) in
    let next = (get_or words place word).now in
    let few = length-map (take place words) (λ (word : Bor (List ℕ)). word.now) in
    let pushed = join-push at front next (omega (arith, few, length-take-le place words (omega arith))) in
    rw (map_more (λ word. word.now) words place word inside, pushed) (sym (append_assoc (join_with_byte at front) (at ∷ []) next))
