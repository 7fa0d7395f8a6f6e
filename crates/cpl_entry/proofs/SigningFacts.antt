-- Labels that are looked at one after another.
use Rattle.std.proofs.Common.{◌≡◌, ℕ, ◌+◌, ◌<◌, ◌≤◌, Bool, true, false, not, List, [], length, get_or, take, drop, map, Some, None, Ok, Err, add-one, arith, refl, sym, ap, ◌∙◌}
use Rattle.std.proofs.lemmas.List.{length-map, length-take-le, map_more, take_all}
use Rattle.std.proofs.Math.ListN.{drop_of_length-le}
use Rattle.std.proofs.Math.Seq.{drop-cons}
use Rattle.std.specs.Option.{option_map_or}
use Rattle.cpl_base.specs.Words.{first_repeat, repeat_behind}
use Rattle.cpl_formula.specs.declared.formula.EntrySign.{EntrySign}
use Rattle.cpl_entry.specs.Kept.{distinct_labels, is_there, with_label}
use Rattle.cpl_entry.specs.declared.fault.EntryFault.TheVariants.{LabelTwice}

-- the labels of signs
abbrev pub labels_in : List EntrySign → List (List ℕ)
labels_in signs = map (λ (sign : EntrySign). sign.label) signs

-- So far no label stood before, and the labels so far are these.
pub record IsSigned (signs : List EntrySign) (k : ℕ) (found : List (List ℕ)) : Type 0 where
  pub labels : found ≡ labels_in (take k signs)
  pub none : first_repeat (labels_in signs) ≡ repeat_behind found (labels_in (drop k signs))

-- the first label that stood before
pub first_repeat-seen : (signs : List EntrySign) (k : ℕ) (sign : EntrySign) (labels : List (List ℕ)) → IsSigned signs k labels → k < length signs → sign ≡ get_or signs k sign → is_there labels sign.label ≡ true → first_repeat (labels_in signs) ≡ Some k
first_repeat-seen signs k sign labels so inside is seen =
    let many : length labels ≡ k = ap length so.labels ∙ length-map (take k signs) (λ (s : EntrySign). s.label) ∙ length-take-le k signs (omega arith) in
    so.none ∙ rw (drop-cons signs k sign, sym is, seen, many) refl

-- one more label that didn't
pub IsSigned-more : (signs : List EntrySign) (k : ℕ) (sign : EntrySign) (labels : List (List ℕ)) → IsSigned signs k labels → k < length signs → sign ≡ get_or signs k sign → is_there labels sign.label ≡ false → IsSigned signs (k + 1) (with_label labels sign.label)
IsSigned-more signs k sign labels so inside is new = record {
  labels = rw (new, so.labels, map_more (λ (s : EntrySign). s.label) signs k sign inside, sym is) refl;
  none = so.none ∙ rw (drop-cons signs k sign, sym is, new, add-one) refl;
}

-- none of them did
pub first_repeat-none : (signs : List EntrySign) (k : ℕ) (labels : List (List ℕ)) → IsSigned signs k labels → length signs ≤ k → first_repeat (labels_in signs) ≡ None
first_repeat-none signs k labels so over = so.none ∙ rw (drop_of_length-le signs over) refl

-- and they are all labels
pub labels_in-all : (signs : List EntrySign) (k : ℕ) (labels : List (List ℕ)) → IsSigned signs k labels → length signs ≤ k → labels ≡ labels_in signs
labels_in-all signs k labels so over = so.labels ∙ ap labels_in (take_all k signs over)

-- ---- what is answered

-- with no signs looked at there are no labels
pub IsSigned-none : (signs : List EntrySign) (labels : List (List ℕ)) → labels ≡ [] → IsSigned signs 0 labels
IsSigned-none signs labels is = record { labels = is; none = ap (λ found. repeat_behind found (labels_in signs)) (sym is) }

-- what isn't new is there
pub there_if_not_new : (new there : Bool) → new ≡ not there → new ≡ false → there ≡ true
there_if_not_new new true is old = refl
there_if_not_new new false is old = cc

-- what is new isn't
pub missing_if_new : (new there : Bool) → new ≡ not there → new ≡ true → there ≡ false
missing_if_new new true is fresh = cc
missing_if_new new false is fresh = refl

-- a label stood before
pub distinct_labels-seen : (signs : List EntrySign) (k : ℕ) → first_repeat (labels_in signs) ≡ Some k → distinct_labels (labels_in signs) ≡ Err (LabelTwice k)
distinct_labels-seen signs k is = ap (λ place. option_map_or (λ index. Err (LabelTwice index)) place (Ok (labels_in signs))) is

-- none did
pub distinct_labels-none : (signs : List EntrySign) → first_repeat (labels_in signs) ≡ None → distinct_labels (labels_in signs) ≡ Ok (labels_in signs)
distinct_labels-none signs is = ap (λ place. option_map_or (λ index. Err (LabelTwice index)) place (Ok (labels_in signs))) is
