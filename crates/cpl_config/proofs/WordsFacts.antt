-- How long the words of a row are, joined by single blanks.
use Rattle.std.proofs.Common.{ℕ, ◌≤◌, eqb, inl, inr, List, [], ◌∷◌, length, Option, Some, None, IfSome, arith, length-append}
use Rattle.std.proofs.lemmas.Bool.{cases_Bool}
use Rattle.std.specs.List.{join_with_byte}
use Rattle.cpl_base.specs.Numerals.{cut_at, onto_front}
use Rattle.cpl_base.specs.Words.{is_some_of}
use Rattle.cpl_config.specs.Words.{ends_in_colons, item_of_halves, value_item, values_of}

-- words behind the first are no longer than all
join-behind : (word : List ℕ) (more : List (List ℕ)) → length (join_with_byte 32 more) ≤ length (join_with_byte 32 (word ∷ more))
join-behind word [] = omega arith
join-behind word (next ∷ more) = omega (arith, length-append word (32 ∷ join_with_byte 32 (next ∷ more)))

-- a shorter first word makes them no longer
join-first : (short long : List ℕ) (more : List (List ℕ)) → length short ≤ length long → length (join_with_byte 32 (short ∷ more)) ≤ length (join_with_byte 32 (long ∷ more))
join-first short long [] less = less
join-first short long (next ∷ more) less =
    omega (arith, length-append short (32 ∷ join_with_byte 32 (next ∷ more)), length-append long (32 ∷ join_with_byte 32 (next ∷ more)))

-- what stands behind a cut is shorter than the text
abbrev BehindShort : List ℕ → Option (List ℕ × List ℕ) → Type 0
BehindShort text cut = IfSome cut (λ halves. length halves.1 ≤ length text)

-- also with one byte more in front
onto_front-short : (c : ℕ) (text : List ℕ) (cut : Option (List ℕ × List ℕ)) → BehindShort text cut → BehindShort (c ∷ text) (onto_front c cut)
onto_front-short c text None short = tt
onto_front-short c text (Some halves) short = omega arith

cut_at-short : (at : ℕ) (text : List ℕ) → BehindShort text (cut_at at text)
cut_at-short at [] = tt
cut_at-short at (c ∷ cs) =
    elim (cases_Bool (eqb c at)) [
      | inl here ↦ rw here (omega arith)
      | inr other ↦ rw other (onto_front-short c cs (cut_at at cs) (cut_at-short at cs))
    ]

-- the values of an item are no longer than its words
abbrev ValuesShort : List (List ℕ) → Option (List ℕ × List (List ℕ)) → Type 0
ValuesShort words item = IfSome item (λ v. length (join_with_byte 32 v.1) ≤ length (join_with_byte 32 words))

values_of-short : (word rest : List ℕ) (more : List (List ℕ)) → length rest ≤ length word → length (join_with_byte 32 (values_of rest more)) ≤ length (join_with_byte 32 (word ∷ more))
values_of-short word [] more less = join-behind word more
values_of-short word (c ∷ cs) more less = join-first (c ∷ cs) word more less

item_of_halves-short : (word : List ℕ) (cut : Option (List ℕ × List ℕ)) (more : List (List ℕ)) → BehindShort word cut → ValuesShort (word ∷ more) (item_of_halves cut more)
item_of_halves-short word None more short = tt
item_of_halves-short word (Some halves) more short =
    elim (cases_Bool (is_some_of halves.0)) [
      | inl some ↦ rw some (values_of-short word halves.1 more short)
      | inr none ↦ rw none tt
    ]

pub value_item-short : (words : List (List ℕ)) → ValuesShort words (value_item words)
value_item-short [] = tt
value_item-short (word ∷ more) =
    elim (cases_Bool (ends_in_colons word)) [
      | inl ends ↦ rw ends tt
      | inr not_so ↦ rw not_so (item_of_halves-short word (cut_at 58 word) more (cut_at-short 58 word))
    ]
