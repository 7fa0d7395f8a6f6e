-- Values lined up, one field more.
use Rattle.std.proofs.Common.{◌≡◌, ℕ, ◌+◌, ◌<◌, Bool, true, false, ◌||◌, ◌==◌, List, [], ◌∷◌, ◌++◌, length, map, set, get_or, take, ℤ, refl, sym, ap, subst, ◌∙◌, inl, inr}
use Rattle.std.proofs.lemmas.Bool.{cases_Bool, cases_lt, eq-eqb, eqb-true, false≢true}
use Rattle.std.proofs.lemmas.List.{get_or-set_other, get_or_past, get_or-set_same, length-map, length-set, map-append, take_more}
use Rattle.std.proofs.lemmas.List.Elements.{All-map, All-set}
use Rattle.std.proofs.lemmas.List.Folds.{list_any-append}
use Rattle.std.specs.List.{All}
use Rattle.cpl_base.specs.Numbers.{IsValue}
use Rattle.cpl_block.specs.Frames.{home_of, value_at, values_in}
use Rattle.cpl_block.specs.declared.frame.Frame.{Frame}
use Rattle.cpl_comp.proofs.HeldFacts.{get_or-within, none-within}
use Rattle.cpl_comp.specs.Turns.{is_among}
use Rattle.cpl_grid.specs.Parts.{cells_of_part}
use Rattle.cpl_sweep.specs.Places.{field_at}
use Rattle.cpl_phase.specs.Shown.{AreShownFor}
use Rattle.cpl_phase.specs.Sites.{AreSites}
use Rattle.cpl_phase.specs.declared.sites.Sites.{Sites}

-- a block has as many values as places of cells
pub shown-length : (frame : Frame) (sites : Sites) (field : List ℤ) → AreSites frame sites → length (values_in frame field) ≡ length sites.homes.items
shown-length frame sites field are =
    length-map (cells_of_part frame.grid frame.part) _ ∙ sym (ap length are.homes ∙ length-map (cells_of_part frame.grid frame.part) (home_of frame))

-- whether a number is among others and one more
among-append : (xs ys : List ℕ) (k : ℕ) → is_among (xs ++ ys) k ≡ (is_among xs k || is_among ys k)
among-append xs ys k = list_any-append (λ j. j == k) xs ys

or-none : (b : Bool) → (b || false) ≡ b
or-none true = refl
or-none false = refl

or-parts : (a b : Bool) → (a || b) ≡ false → (a ≡ false) × (b ≡ false)
or-parts true b none = absurd (cc)
or-parts false b none = (refl, none)

among-one : (j k : ℕ) → is_among (k ∷ []) j ≡ true → j ≡ k
among-one j k among = sym (eqb-true k j (sym (or-none (k == j)) ∙ among))

one-among : (j k : ℕ) → j ≡ k → is_among (k ∷ []) j ≡ true
one-among j k same = or-none (k == j) ∙ eq-eqb k j (sym same)

-- a field of values, or none
field-within : (fields : List (List ℤ)) (k : ℕ) → All (All IsValue) fields → All IsValue (field_at fields k)
field-within fields k each = elim (cases_lt k (length fields)) [
  | inl inside ↦ each k [] inside
  | inr past ↦ subst (All IsValue) (sym (get_or_past fields k [] past)) none-within
]

-- its values at the cells of a block are values
values-within : (frame : Frame) (field : List ℤ) → All IsValue field → All IsValue (values_in frame field)
values-within frame field each =
    All-map IsValue (λ s. value_at field (home_of frame s)) (cells_of_part frame.grid frame.part)
    (λ i d below. get_or-within field each (home_of frame (get_or (cells_of_part frame.grid frame.part) i d)))

module _ (frame : Frame) (cells : ℕ) (fields : List (List ℤ)) where
  -- nothing is lined up anew
  pub shown-none : (shown : List (List ℤ)) → All (λ values. length values ≡ cells) shown → AreShownFor frame cells [] fields shown shown
  shown-none shown count = record {
    number = refl;
    count = count;
    values = λ fields_are old_are. old_are;
    fresh = λ k below among. absurd (cc);
    kept = λ k among. refl;
  }

  -- two lists of places, one after the other
  pub shown-both : (first second : List ℕ) (old mid new : List (List ℤ))
      → AreShownFor frame cells first fields old mid → AreShownFor frame cells second fields mid new
      → AreShownFor frame cells (first ++ second) fields old new
  shown-both first second old mid new one two = record {
    number = two.number ∙ one.number;
    count = two.count;
    values = λ fields_are old_are. two.values fields_are (one.values fields_are old_are);
    fresh = λ k below among. elim (cases_Bool (is_among second k)) [
      | inl yes_ ↦ two.fresh k (subst (λ n. k < n) (sym one.number) below) yes_
      | inr none ↦
          let both = among-append first second k in
          let there : is_among first k ≡ true = sym (or-none (is_among first k)) ∙ ap (λ b. is_among first k || b) (sym none) ∙ sym both ∙ among in
          two.kept k none ∙ one.fresh k below there
    ];
    kept = λ k among.
        let parts = or-parts (is_among first k) (is_among second k) (sym (among-append first second k) ∙ among) in
        two.kept k parts.1 ∙ one.kept k parts.0;
  }

  -- one field
  shown-one : (k : ℕ) (old : List (List ℤ)) (values : List ℤ) → k < length old → length values ≡ cells → values ≡ values_in frame (field_at fields k)
      → All (λ values. length values ≡ cells) old → AreShownFor frame cells (k ∷ []) fields old (set old k values)
  shown-one k old values below long is count = record {
    number = length-set old k values;
    count = All-set (λ values. length values ≡ cells) old k values long count;
    values = λ fields_are old_are. All-set (All IsValue) old k values
        (subst (All IsValue) (sym is) (values-within frame (field_at fields k) (field-within fields k fields_are))) old_are;
    fresh = λ j there among.
        let same : j ≡ k = among-one j k among in
        subst (λ n. field_at (set old k values) n ≡ values_in frame (field_at fields n)) (sym same) (get_or-set_same old k values [] below ∙ is);
    kept = λ j among. get_or-set_other old k j values [] (λ same. false≢true (sym among ∙ one-among j k same));
  }

  -- and one field more
  pub shown-more : (places : List ℕ) (k : ℕ) (old mid : List (List ℤ)) (values : List ℤ) → k < length old → length values ≡ cells
      → values ≡ values_in frame (field_at fields k)
      → AreShownFor frame cells places fields old mid → AreShownFor frame cells (places ++ k ∷ []) fields old (set mid k values)
  shown-more places k old mid values below long is shown =
      shown-both places (k ∷ []) old mid (set mid k values) shown
      (shown-one k mid values (subst (λ n. k < n) (sym shown.number) below) long is shown.count)

module _ {X : Type 0} (place : X → ℕ) (frame : Frame) (sites : Sites) (fields : List (List ℤ)) (are : AreSites frame sites) where
  -- the fields of one row more
  pub shown-row : (rows : List X) (j : ℕ) (d : X) (old mid new : List (List ℤ)) → j < length rows → All (λ row. place row < length old) rows
      → AreShownFor frame (length sites.homes.items) (map place (take j rows)) fields old mid
      → new ≡ set mid (place (get_or rows j d)) (values_in frame (field_at fields (place (get_or rows j d))))
      → AreShownFor frame (length sites.homes.items) (map place (take (j + 1) rows)) fields old new
  shown-row rows j d old mid new below places shown is =
      let k = place (get_or rows j d) in
      let values = values_in frame (field_at fields k) in
      let more = shown-more frame (length sites.homes.items) fields (map place (take j rows)) k old mid values (places j d below)
      (shown-length frame sites (field_at fields k) are) refl shown in
      let passed : map place (take (j + 1) rows) ≡ map place (take j rows) ++ k ∷ [] = ap (map place) (take_more rows j d below)
      ∙ map-append place (take j rows) (get_or rows j d ∷ []) in
      let P : List ℕ → Type 0 = λ ks. AreShownFor frame (length sites.homes.items) ks fields old new in
      subst P (sym passed) (subst (λ (xs : List (List ℤ)).
      AreShownFor frame (length sites.homes.items) (map place (take j rows) ++ k ∷ []) fields old xs) (sym is) more)

-- the field of one place more
pub shown-place : (frame : Frame) (sites : Sites) (fields : List (List ℤ)) → AreSites frame sites
    → (places : List ℕ) (j d : ℕ) (old mid new : List (List ℤ)) → j < length places → All (λ k. k < length old) places
    → AreShownFor frame (length sites.homes.items) (take j places) fields old mid
    → new ≡ set mid (get_or places j d) (values_in frame (field_at fields (get_or places j d)))
    → AreShownFor frame (length sites.homes.items) (take (j + 1) places) fields old new
shown-place frame sites fields are places j d old mid new below within shown is =
    let k = get_or places j d in
    let values = values_in frame (field_at fields k) in
    let more = shown-more frame (length sites.homes.items) fields (take j places) k old mid values (within j d below)
    (shown-length frame sites (field_at fields k) are) refl shown in
    subst (λ ks. AreShownFor frame (length sites.homes.items) ks fields old new) (sym (take_more places j d below))
    (subst (λ (xs : List (List ℤ)). AreShownFor frame (length sites.homes.items) (take j places ++ k ∷ []) fields old xs) (sym is) more)
