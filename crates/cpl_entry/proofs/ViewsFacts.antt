-- What a book keeps, seen without closures.
use Rattle.std.proofs.Common.{◌≡◌, ◌⊎◌, ◌∙◌, inl, inr, ◌<◌, ◌^◌, ℕ, zero, suc, ℤ, subst, List, [], ◌∷◌, length, get_or, map, Option, Some, None, Ok, Err, refl, sym, ap}
use Rattle.std.specs.Prelude.{IsTrue, is_none}
use Rattle.std.specs.List.{All}
use Rattle.std.specs.Option.{option_map_or}
use Rattle.std.proofs.lemmas.List.{length-map}
use Rattle.std.proofs.lemmas.List.Elements.{All-map}
use Rattle.cpl_base.specs.Numbers.{IsValue}
use Rattle.cpl_base.specs.Words.{are_distinct, first_repeat}
use Rattle.cpl_formula.proofs.ValuesFacts.{value_of-within}
use Rattle.cpl_formula.specs.Tree.{is_over, value_of}
use Rattle.cpl_formula.specs.declared.formula.Formula.{Formula}
use Rattle.cpl_formula.specs.declared.formula.EntrySign.{EntrySign}
use Rattle.cpl_entry.specs.Entries.{NativeEntry, book_of, inputs_at, labels_of, sign_of, signs_of}
use Rattle.cpl_entry.specs.Kept.{distinct_labels}
use Rattle.cpl_entry.specs.Views.{entry_of}
use Rattle.cpl_entry.specs.declared.entry.Entry.{Entry}
use Rattle.cpl_entry.specs.declared.fault.EntryFault.{EntryFault}
use Rattle.cpl_entry.specs.declared.fault.EntryFault.TheVariants.{LabelTwice, Memory}

-- each entry's formula is over its inputs
pub are_over : {X : Type 0} {F : X → Type 0} {g : _} (entries : List (Entry X F g)) → All (λ (entry : NativeEntry). IsTrue (is_over entry.inputs entry.formula)) (map entry_of entries)
are_over {X} {F} {g} entries =
    All-map (λ (entry : NativeEntry). IsTrue (is_over entry.inputs entry.formula)) (entry_of {X = X} {F = F} {g = g}) entries
    (λ k entry inside. (get_or entries k entry).over)

-- labels that are given back, unless one of them stood before
given_back : (labels found : List (List ℕ)) (place : Option ℕ) → option_map_or (λ index. Err (LabelTwice index)) place (Ok labels) ≡ Ok found → (found ≡ labels) × IsTrue (is_none place)
given_back labels found None is = (cc, refl)
given_back labels found (Some index) is = cc

-- labels that stand once each are these
pub distinct_labels-Ok : (labels found : List (List ℕ)) → distinct_labels labels ≡ Ok found → (found ≡ labels) × IsTrue (are_distinct labels)
distinct_labels-Ok labels found is = given_back labels found (first_repeat labels) is

-- a formula's value at as many values as its entry takes is a value
pub IsValue-formula : (inputs : List ℤ) (count : ℕ) (formula : Formula) (answer : ℤ) → All IsValue inputs → length inputs ≡ count → IsTrue (is_over count formula) → answer ≡ value_of inputs formula → IsValue answer
IsValue-formula inputs count formula answer values counted over is =
    let fine : IsTrue (is_over (length inputs) formula) = rw counted over in
    subst IsValue (sym is) (value_of-within inputs values formula fine)

-- the book of entries whose labels stand once each
pub book_of-Ok : (entries : List NativeEntry) (found : List (List ℕ)) → distinct_labels (labels_of entries) ≡ Ok found → book_of entries ≡ Ok entries
book_of-Ok entries found is = given (first_repeat (labels_of entries)) is
  where
    given : (place : Option ℕ) → option_map_or (λ index. Err (LabelTwice index)) place (Ok (labels_of entries)) ≡ Ok found → option_map_or (λ index. Err (LabelTwice index)) place (Ok entries) ≡ Ok entries
    given None e = refl
    given (Some index) e = cc

-- entries of which one's label stood before make none
pub book_of-Err : (entries : List NativeEntry) (fault : EntryFault) → distinct_labels (labels_of entries) ≡ Err fault → book_of entries ≡ Err fault
book_of-Err entries fault is = given (first_repeat (labels_of entries)) is
  where
    given : (place : Option ℕ) → option_map_or (λ index. Err (LabelTwice index)) place (Ok (labels_of entries)) ≡ Err fault → option_map_or (λ index. Err (LabelTwice index)) place (Ok entries) ≡ Err fault
    given None e = cc
    given (Some index) e = cc

-- the signs of entries
pub signs_of-entries : {X : Type 0} {F : X → Type 0} {g : _} (entries : List (Entry X F g)) → map (λ (entry : Entry X F g). sign_of (entry_of entry)) entries ≡ signs_of (map entry_of entries)
signs_of-entries [] = refl
signs_of-entries (entry ∷ entries) = let rest = signs_of-entries entries in λ j. sign_of (entry_of entry) ∷ rest j

-- the labels of signs are those of their entries
pub labels_of-signs : (entries : List NativeEntry) → map (λ (sign : EntrySign). sign.label) (signs_of entries) ≡ labels_of entries
labels_of-signs [] = refl
labels_of-signs (entry ∷ entries) = let rest = labels_of-signs entries in λ j. entry.label ∷ rest j

-- why entries make no book, from what their signs say
pub cause_of-signs : (entries : List NativeEntry) (signs : List EntrySign) (fault : EntryFault) → signs ≡ signs_of entries → (fault ≡ Memory) ⊎ (distinct_labels (map (λ (sign : EntrySign). sign.label) signs) ≡ Err fault) → (fault ≡ Memory) ⊎ (book_of entries ≡ Err fault)
cause_of-signs entries signs fault are (inl memory) = inl memory
cause_of-signs entries signs fault are (inr seen) =
    inr (book_of-Err entries fault ((λ j. distinct_labels (sym (labels_of-signs entries) j)) ∙ (λ j. distinct_labels (map (λ (sign : EntrySign). sign.label) (sym are j))) ∙ seen))

-- the entry at a place takes as many inputs as are told of it
pub inputs_at-entry : {X : Type 0} {F : X → Type 0} {g : _} (entries : List (Entry X F g)) (place : ℕ) (entry : Entry X F g) (count : ℕ) → inputs_at (map entry_of entries) place ≡ Some count → entry ≡ get_or entries place entry → count ≡ entry.inputs
inputs_at-entry [] place entry count told is = let none : None ≡ Some count = told in absurd cc
inputs_at-entry {X} {F} {g} (e ∷ es) zero entry count told is =
    let here : Some e.inputs ≡ Some count = told in
    let counted : e.inputs ≡ count = cc in
    sym counted ∙ ap (λ (x : Entry X F g). x.inputs) (sym is)
inputs_at-entry (e ∷ es) (suc place) entry count told is = inputs_at-entry es place entry count told is

-- entries are as many without their closures
pub few_entries : {X : Type 0} {F : X → Type 0} {g : _} (entries : List (Entry X F g)) → length entries < 2 ^ 16 → length (map entry_of entries) < 2 ^ 16
few_entries {X} {F} {g} entries few = rw (length-map entries (entry_of {X = X} {F = F} {g = g})) few
