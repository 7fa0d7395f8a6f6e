-- Where a text is cut at its arrows.
use Rattle.std.proofs.Common.{◌≡◌, ℕ, ◌<◌, Bool, true, false, eqb, inl, inr, List, [], ◌∷◌, ◌++◌, length, get_or, take, drop, Option, Some, None, option_map, refl, sym, subst, ap, ◌∙◌, append_assoc, arith, zero, suc}
use Rattle.std.proofs.lemmas.Bool.{cases_Bool, eqb-true, ne_eqb}
use Rattle.std.proofs.lemmas.List.{append-nil}
use Rattle.cpl_base.specs.Numerals.{onto_front}
use Rattle.cpl_runseq.specs.RowWords.{arrow, arrow_words, is_arrow, word_if_any}
use Rattle.cpl_runseq.specs.Views.{cut_arrow}

-- two bytes that are none
is_arrow-not : (c d : ℕ) → (c ≡ 45 → d ≡ 62 → ⊥) → is_arrow c d ≡ false
is_arrow-not c d none =
    elim (cases_Bool (eqb c 45)) [
      | inl e ↦ rw e (ne_eqb d 62 (none (eqb-true c 45 e)))
      | inr e ↦ rw e refl
    ]

-- the first arrow is the one at the place k
pub cut_arrow-found : (text : List ℕ) (k : ℕ) → ((j : ℕ) → suc j < suc k → get_or text j 0 ≡ 45 → get_or text (suc j) 0 ≡ 62 → ⊥) → suc k < length text → is_arrow (get_or text k 0) (get_or text (suc k) 0) ≡ true → cut_arrow text ≡ Some (take k text, drop (suc (suc k)) text)
cut_arrow-found [] k none inside here = absurd (omega arith)
cut_arrow-found (c ∷ []) k none inside here = absurd (omega arith)
cut_arrow-found (c ∷ d ∷ rest) zero none inside here = rw here refl
cut_arrow-found (c ∷ d ∷ rest) (suc k) none inside here =
    let behind = cut_arrow-found (d ∷ rest) k (λ j l. none (suc j) (omega arith)) (omega arith) here in
    let no : is_arrow c d ≡ false = is_arrow-not c d (none 0 (omega arith)) in
    rw (no, behind) refl

-- there is no arrow
pub cut_arrow-none : (text : List ℕ) → ((j : ℕ) → suc j < length text → get_or text j 0 ≡ 45 → get_or text (suc j) 0 ≡ 62 → ⊥) → cut_arrow text ≡ None
cut_arrow-none [] none = refl
cut_arrow-none (c ∷ []) none = refl
cut_arrow-none (c ∷ d ∷ rest) none =
    let behind = cut_arrow-none (d ∷ rest) (λ j l. none (suc j) (omega arith)) in
    let no : is_arrow c d ≡ false = is_arrow-not c d (none 0 (omega arith)) in
    rw (no, behind) refl

-- What the words of a text are, by where it is cut, if it is; and what is left behind the arrow is shorter.
abbrev AreCut : List (List ℕ) → List ℕ → List ℕ → Option (List ℕ × List ℕ) → Type 0
AreCut words before text None = words ≡ word_if_any (before ++ text)
AreCut words before text (Some h) = (words ≡ word_if_any (before ++ h.0) ++ arrow ∷ arrow_words [] h.1) × (length h.1 < length text)

-- one more byte before the cut
are_cut-front : (words : List (List ℕ)) (before : List ℕ) (c : ℕ) (text : List ℕ) (o : Option (List ℕ × List ℕ)) → AreCut words (before ++ c ∷ []) text o → AreCut words before (c ∷ text) (onto_front c o)
are_cut-front words before c text None cut = cut ∙ ap word_if_any (append_assoc before (c ∷ []) text)
are_cut-front words before c text (Some h) cut =
    (cut.0 ∙ ap (λ b. word_if_any b ++ arrow ∷ arrow_words [] h.1) (append_assoc before (c ∷ []) h.0), omega (arith, cut.1))

-- what the words are where a text begins with an arrow, and where it doesn't
arrow_words-step : (before : List ℕ) (c d : ℕ) (rest : List ℕ) (b : Bool) → is_arrow c d ≡ b → arrow_words before (c ∷ d ∷ rest) ≡ elim b [ true ↦ word_if_any before ++ arrow ∷ arrow_words [] rest | false ↦ arrow_words (before ++ c ∷ []) (d ∷ rest) ]
arrow_words-step before c d rest b e = ap (λ (x : Bool). let words : List (List ℕ) = elim x [ true ↦ word_if_any before ++ arrow ∷ arrow_words [] rest | false ↦ arrow_words (before ++ c ∷ []) (d ∷ rest) ] in words) e

-- the words of a text are what stands before its first arrow, the arrow, and those of what stands behind it
are_cut : (before text : List ℕ) → AreCut (arrow_words before text) before text (cut_arrow text)
are_cut before [] = ap word_if_any (sym (append-nil before))
are_cut before (c ∷ []) = refl
are_cut before (c ∷ d ∷ rest) =
    elim (cases_Bool (is_arrow c d)) [
      | inl e ↦ rw e (arrow_words-step before c d rest true e ∙ ap (λ b. word_if_any b ++ arrow ∷ arrow_words [] rest) (sym (append-nil before)), omega arith)
      | inr e ↦
          let behind = are_cut-front (arrow_words (before ++ c ∷ []) (d ∷ rest)) before c (d ∷ rest) (cut_arrow (d ∷ rest)) (are_cut (before ++ c ∷ []) (d ∷ rest)) in
          rw e (let P : List (List ℕ) → Type 0 = λ words. AreCut words before (c ∷ d ∷ rest) (onto_front c (cut_arrow (d ∷ rest))) in subst P (sym (arrow_words-step before c d rest false e)) behind)
    ]

-- the same, of a text that is known to have an arrow
pub cut_some : (text before after : List ℕ) → cut_arrow text ≡ Some (before, after) → (arrow_words [] text ≡ word_if_any before ++ arrow ∷ arrow_words [] after) × (length after < length text)
cut_some text before after is = rw is at (are_cut [] text)

-- and of one that has none
pub cut_none : (text : List ℕ) → cut_arrow text ≡ None → arrow_words [] text ≡ word_if_any text
cut_none text is = rw is at (are_cut [] text)

-- a text in which the code found none
pub cut_missed : {A : Type 0} (f : A → List ℕ × List ℕ) (found : Option A) (text : List ℕ) → option_map f found ≡ cut_arrow text → ((x : A) → found ≡ Some x → ⊥) → cut_arrow text ≡ None
cut_missed f None text is missed = sym is
cut_missed f (Some x) text is missed = absurd (missed x refl)
