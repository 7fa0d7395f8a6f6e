-- Lists of cells that PETs need: ascending lists, and which PETs have one.
use Rattle.std.proofs.Common.{◌≡◌, ℕ, zero, suc, ◌+◌, ◌-◌, ◌<◌, ◌≤◌, ◌&&◌, Bool, true, false, cond, eqb, leb, ltb, List, [], ◌∷◌, ◌++◌, length, get_or, map, filter, refl, sym, ap, subst, ◌∙◌, inl, inr, arith, IsPermutation}
use Rattle.std.specs.List.{All, flat_map, list_any, range_with_len}
use Rattle.std.specs.List.Sorted.{IsNonDecreasingBy, IsPartitionPoint, IsPartitionedBy}
use Rattle.std.proofs.lemmas.Bool.{and_parts, cases_Bool, cases_lt, eq-eqb, leb-true, le-leb, ltb-false, ltb-true, lt-ltb, ne_eqb}
use Rattle.std.proofs.Math.Bool.{or-false}
use Rattle.std.proofs.lemmas.List.{get_or-map, length-map}
use Rattle.std.proofs.lemmas.List.Elements.{All-filter, All-from_get_or, All-head, All-tail}
use Rattle.std.proofs.lemmas.List.Folds.{list_any-append, list_any_at, list_any_none}
use Rattle.std.proofs.lemmas.List.Sorted.{IsNonDecreasingBy-from_default, IsPartitionedBy-ltb, list_any-IsPermutation}
use Rattle.cpl_grid.proofs.RangeFacts.{All-range, filter-range_none}
use Rattle.cpl_grid.specs.Owners.{IsPartOf, Layout, cells_of}
use Rattle.cpl_grid.specs.Parts.{cells_of_part}
use Rattle.cpl_grid.specs.declared.blocks.Part.{Part}
use Rattle.cpl_grid.specs.declared.grid.Grid.{Grid}
use Rattle.cpl_route.proofs.OwnedFacts.{shared-part}
use Rattle.cpl_route.proofs.RouteFacts.{rising-filter, rising-range}
use Rattle.cpl_route.proofs.WalkFacts.{length-filter-le}
use Rattle.cpl_route.specs.Picks.{AreCopies, ArePickedAlike, has_list, is_listed}
use Rattle.cpl_route.specs.Places.{IsStretch, cell_in}
use Rattle.cpl_route.specs.Routes.{ArePetsDistinct, IsRising, are_ascending, are_ascending_from, has_cells, is_ascending, is_picked, leg_between, legs_from, pets_of, pick_route, pickers_of, route_of, shared_cells}
use Rattle.cpl_route.specs.declared.need.Need.{Need}

-- an ascending list has no number below the least
ascending-least : (least : ℕ) (xs : List ℕ) (k d : ℕ) → is_ascending least xs ≡ true → k < length xs → least ≤ get_or xs k d
ascending-least least [] k d ascending inside = absurd (omega arith)
ascending-least least (x ∷ xs) zero d ascending inside = leb-true least x (and_parts (leb least x) (is_ascending x xs) ascending).0
ascending-least least (x ∷ xs) (suc k) d ascending inside =
    let parts = and_parts (leb least x) (is_ascending x xs) ascending in
    let first = leb-true least x parts.0 in
    let rest = ascending-least x xs k d parts.1 (omega arith) in omega arith

-- an ascending list is in order
pub ascending-order : (least : ℕ) (xs : List ℕ) (i j d : ℕ) → is_ascending least xs ≡ true → i ≤ j → j < length xs → get_or xs i d ≤ get_or xs j d
ascending-order least [] i j d ascending below inside = absurd (omega arith)
ascending-order least (x ∷ xs) zero zero d ascending below inside = omega arith
ascending-order least (x ∷ xs) zero (suc j) d ascending below inside =
    ascending-least x xs j d (and_parts (leb least x) (is_ascending x xs) ascending).1 (omega arith)
ascending-order least (x ∷ xs) (suc i) zero d ascending below inside = absurd (omega arith)
ascending-order least (x ∷ xs) (suc i) (suc j) d ascending below inside =
    ascending-order x xs i j d (and_parts (leb least x) (is_ascending x xs) ascending).1 (omega arith) (omega arith)

-- halving divides an ascending list at a number
pub ascending-parted : (xs : List ℕ) (s : ℕ) → is_ascending 0 xs ≡ true → IsPartitionedBy (λ x. ltb x s) xs
ascending-parted xs s ascending =
    IsPartitionedBy-ltb (λ x. x) xs s (IsNonDecreasingBy-from_default (λ x. x) xs 0 (λ i j below inside. ascending-order 0 xs i j 0 ascending below inside))

-- what halving finds: lower numbers before, and no lower ones behind
pub point-before : (xs : List ℕ) (s place : ℕ) → IsPartitionPoint (λ x. ltb x s ≡ true) (λ x. ltb x s ≡ false) xs place → (k : ℕ) → k < place → get_or xs k 0 < s
point-before xs s place point k below = ltb-true (get_or xs k 0) s (point.0 k 0 (omega arith) below)

pub point-behind : (xs : List ℕ) (s place : ℕ) → IsPartitionPoint (λ x. ltb x s ≡ true) (λ x. ltb x s ≡ false) xs place → (k : ℕ) → place ≤ k → k < length xs → s ≤ get_or xs k 0
point-behind xs s place point k from inside = ltb-false (get_or xs k 0) s (point.1 k 0 from inside)

-- a number that no place has, isn't listed
unlisted : (xs : List ℕ) (s : ℕ) → ((k : ℕ) → k < length xs → get_or xs k 0 ≡ s → ⊥) → is_listed xs s ≡ false
unlisted xs s none =
    list_any_none (λ t. eqb t s) xs (All-from_get_or (λ t. eqb t s ≡ false) xs 0 (λ k inside. ne_eqb (get_or xs k 0) s (none k inside)))

-- a number at a place is listed
pub listed-at : (xs : List ℕ) (k s : ℕ) → k < length xs → get_or xs k 0 ≡ s → is_listed xs s ≡ true
listed-at xs k s inside is = list_any_at (λ t. eqb t s) xs k 0 inside (eq-eqb (get_or xs k 0) s is)

-- behind the last number no cell of a row is listed
pub stretch-behind : (xs : List ℕ) (nx row column limit : ℕ) → ((k : ℕ) → k < length xs → get_or xs k 0 < cell_in nx row column) → column < limit → IsStretch (is_listed xs) nx row column limit (record { needed = false; end = limit })
stretch-behind xs nx row column limit before some = record {
  some = some;
  within = omega arith;
  same = λ i from end. unlisted xs (cell_in nx row i) (λ k inside is. let less = before k inside in omega arith);
}

-- up to the next number none is listed
pub stretch-between : (xs : List ℕ) (nx row column limit place next : ℕ) → is_ascending 0 xs ≡ true → ((k : ℕ) → k < place → get_or xs k 0 < cell_in nx row column) → place < length xs → next ≡ get_or xs place 0 → cell_in nx row column < next → column < limit → (end : ℕ) → column < end → end ≤ limit → end ≤ column + (next - cell_in nx row column) → IsStretch (is_listed xs) nx row column limit (record { needed = false; end = end })
stretch-between xs nx row column limit place next ascending before inside is above some end end_some end_limit end_next = record {
  some = end_some;
  within = end_limit;
  same = λ i from to_end. unlisted xs (cell_in nx row i) (λ k within is_k. elim (cases_lt k place) [
    | inl lower ↦ let less = before k lower in omega arith
    | inr higher ↦ let more = ascending-order 0 xs place k 0 ascending higher within in omega arith
  ]);
}

-- numbers that follow one another are listed
pub stretch-run : (xs : List ℕ) (nx row column limit first run : ℕ) → first ≡ cell_in nx row column → 1 ≤ run → run ≤ limit - column → ((k : ℕ) → k < run → is_listed xs (first + k) ≡ true) → IsStretch (is_listed xs) nx row column limit (record { needed = true; end = column + run })
stretch-run xs nx row column limit first run is some within listed = record {
  some = omega arith;
  within = omega arith;
  same = λ i from end.
      let there : cell_in nx row i ≡ first + (i - column) = omega arith in
      ap (is_listed xs) there ∙ listed (i - column) (omega arith);
}

-- what ascending lists say of the first
record AreParts (free : ℕ) (need : Need) (needs : List Need) : Type 0 where
  pub from : free ≤ need.pet
  pub byte : need.pet < 256
  pub cells : is_ascending 0 need.cells ≡ true
  pub rest : are_ascending_from (need.pet + 1) needs ≡ true

ascending-parts : (free : ℕ) (need : Need) (needs : List Need) → are_ascending_from free (need ∷ needs) ≡ true → AreParts free need needs
ascending-parts free need needs ascending =
    let three = and_parts (leb free need.pet && ltb need.pet 256 && is_ascending 0 need.cells) (are_ascending_from (need.pet + 1) needs) ascending in
    let two = and_parts (leb free need.pet && ltb need.pet 256) (is_ascending 0 need.cells) three.0 in
    let one = and_parts (leb free need.pet) (ltb need.pet 256) two.0 in
    record { from = leb-true free need.pet one.0; byte = ltb-true need.pet 256 one.1; cells = two.1; rest = three.1 }

-- the cells of each list ascend
pub cells-ascending : (free : ℕ) (needs : List Need) (k : ℕ) (other : Need) → are_ascending_from free needs ≡ true → k < length needs → is_ascending 0 (get_or needs k other).cells ≡ true
cells-ascending free [] k other ascending inside = absurd (omega arith)
cells-ascending free (need ∷ needs) zero other ascending inside = (ascending-parts free need needs ascending).cells
cells-ascending free (need ∷ needs) (suc k) other ascending inside =
    cells-ascending (need.pet + 1) needs k other (ascending-parts free need needs ascending).rest (omega arith)

-- the PETs of ascending lists are from one on
pets-from : (free : ℕ) (needs : List Need) (k : ℕ) (other : Need) → are_ascending_from free needs ≡ true → k < length needs → free ≤ (get_or needs k other).pet
pets-from free [] k other ascending inside = absurd (omega arith)
pets-from free (need ∷ needs) zero other ascending inside = (ascending-parts free need needs ascending).from
pets-from free (need ∷ needs) (suc k) other ascending inside =
    let parts = ascending-parts free need needs ascending in
    let from = parts.from in
    let rest = pets-from (need.pet + 1) needs k other parts.rest (omega arith) in
    omega arith

-- a PET below all has no list
picked-none : (free : ℕ) (needs : List Need) (pet s : ℕ) → are_ascending_from free needs ≡ true → pet < free → is_picked needs pet s ≡ false
picked-none free [] pet s ascending below = refl
picked-none free (need ∷ needs) pet s ascending below =
    let parts = ascending-parts free need needs ascending in
    let from = parts.from in
    let rest = picked-none (need.pet + 1) needs pet s parts.rest (omega arith) in
    rw (ne_eqb need.pet pet (λ same. omega arith)) rest

-- a PET picks the cells of its list
pub picked-at : (free : ℕ) (needs : List Need) (k : ℕ) (other : Need) (s : ℕ) → are_ascending_from free needs ≡ true → k < length needs → is_picked needs (get_or needs k other).pet s ≡ is_listed (get_or needs k other).cells s
picked-at free [] k other s ascending inside = absurd (omega arith)
picked-at free (need ∷ needs) zero other s ascending inside =
    let parts = ascending-parts free need needs ascending in
    rw (eq-eqb need.pet need.pet refl, picked-none (need.pet + 1) needs need.pet s parts.rest (omega arith)) (or-false (is_listed need.cells s))
picked-at free (need ∷ needs) (suc k) other s ascending inside =
    let parts = ascending-parts free need needs ascending in
    let above = pets-from (need.pet + 1) needs k other parts.rest (omega arith) in
    rw (ne_eqb need.pet (get_or needs k other).pet (λ same. omega arith)) (picked-at (need.pet + 1) needs k other s parts.rest (omega arith))

-- tests that agree on numbers that follow one another keep the same
filter-same : (p q : ℕ → Bool) (a n : ℕ) → ((s : ℕ) → a ≤ s → s < a + n → p s ≡ q s) → filter p (range_with_len a n) ≡ filter q (range_with_len a n)
filter-same p q a zero same = refl
filter-same p q a (suc n) same =
    let rest = filter-same p q (a + 1) n (λ s from to. same s (omega arith) (omega arith)) in
    let here : p a ≡ q a = same a (omega arith) (omega arith) in
    elim (cases_Bool (q a)) [
      | inl passes ↦ rw (here, passes) (ap (λ xs. a ∷ xs) rest)
      | inr fails ↦ rw (here, fails) rest
    ]

-- a PET below all has none
no_list : (free : ℕ) (needs : List Need) (pet : ℕ) → are_ascending_from free needs ≡ true → pet < free → list_any (λ need. eqb need.pet pet) needs ≡ false
no_list free [] pet ascending below = refl
no_list free (need ∷ needs) pet ascending below =
    let parts = ascending-parts free need needs ascending in
    let from = parts.from in
    rw (ne_eqb need.pet pet (λ same. omega arith)) (no_list (need.pet + 1) needs pet parts.rest (omega arith))

-- ascending lists are of PETs from a lower one on too
ascending-later : (low free : ℕ) (needs : List Need) → are_ascending_from low needs ≡ true → ((k : ℕ) (other : Need) → k < length needs → free ≤ (get_or needs k other).pet) → are_ascending_from free needs ≡ true
ascending-later low free [] ascending from = refl
ascending-later low free (need ∷ needs) ascending from =
    let parts = ascending-parts low need needs ascending in
    rw (le-leb free need.pet (from 0 need (omega arith)), lt-ltb need.pet 256 parts.byte, parts.cells, parts.rest) refl

-- lists whose first is above a PET are all above it
pets-above : (a : ℕ) (need : Need) (needs : List Need) (k : ℕ) (other : Need) → are_ascending_from a (need ∷ needs) ≡ true → a < need.pet → k < length (need ∷ needs) → a + 1 ≤ (get_or (need ∷ needs) k other).pet
pets-above a need needs zero other ascending below inside = omega arith
pets-above a need needs (suc k) other ascending below inside =
    let above = pets-from (need.pet + 1) needs k other (ascending-parts a need needs ascending).rest (omega arith) in omega arith

-- the PETs that have a list are those of the lists
pickers-from : (a n : ℕ) (needs : List Need) → are_ascending_from a needs ≡ true → a + n ≡ 256 → filter (λ pet. list_any (λ need. eqb need.pet pet) needs) (range_with_len a n) ≡ map (λ (need : Need). need.pet) needs
pickers-from a zero [] ascending all = refl
pickers-from a zero (need ∷ needs) ascending all =
    let parts = ascending-parts a need needs ascending in
    let from = parts.from in let byte = parts.byte in absurd (omega arith)
pickers-from a (suc n) [] ascending all = filter-range_none (λ pet. false) a (suc n) (λ s from to. refl)
pickers-from a (suc n) (need ∷ needs) ascending all =
    let parts = ascending-parts a need needs ascending in
    let from = parts.from in
    let pets : ℕ → Bool = λ pet. list_any (λ other. eqb other.pet pet) (need ∷ needs) in
    elim (cases_lt a need.pet) [
      | inl below ↦
          let fails : pets a ≡ false = rw (ne_eqb need.pet a (λ same. omega arith)) (no_list (need.pet + 1) needs a parts.rest (omega arith)) in
          let later : are_ascending_from (a + 1) (need ∷ needs) ≡ true = ascending-later a (a + 1) (need ∷ needs) ascending (λ k other inside. pets-above a need needs k other ascending below inside) in
          rw fails (pickers-from (a + 1) n (need ∷ needs) later (omega arith))
      | inr reached ↦
          let here : need.pet ≡ a = omega arith in
          let passes : pets a ≡ true = rw (eq-eqb need.pet a here) refl in
          let rest_from : are_ascending_from (a + 1) needs ≡ true = subst (λ k. are_ascending_from (k + 1) needs ≡ true) here parts.rest in
          let same = filter-same pets (λ pet. list_any (λ other. eqb other.pet pet) needs) (a + 1) n (λ s above to. rw (ne_eqb need.pet s (λ is. omega arith)) refl) in
          rw passes (ap (λ xs. a ∷ xs) (same ∙ pickers-from (a + 1) n needs rest_from (omega arith)) ∙ ap (λ pet. pet ∷ map (λ (other : Need). other.pet) needs) (sym here))
    ]

-- the PETs that have a list
pub pickers-are : (needs : List Need) → are_ascending needs ≡ true → pickers_of needs ≡ map (λ (need : Need). need.pet) needs
unfolding pickers_of
pickers-are needs ascending = pickers-from 0 256 needs ascending refl

-- how many
pub pickers-count : (needs : List Need) → are_ascending needs ≡ true → length (pickers_of needs) ≡ length needs
pickers-count needs ascending = ap length (pickers-are needs ascending) ∙ length-map needs (λ (need : Need). need.pet)

-- the one at a place
pub pickers-at : (needs : List Need) (k : ℕ) (other : Need) → are_ascending needs ≡ true → k < length needs → get_or (pickers_of needs) k 0 ≡ (get_or needs k other).pet
pickers-at needs k other ascending inside =
    ap (λ xs. get_or xs k 0) (pickers-are needs ascending) ∙ get_or-map (λ (need : Need). need.pet) needs k other 0 inside

-- what is sent to the PET at a place
pub shared-listed : (src : Layout) (needs : List Need) (from place : ℕ) (other : Need) (part : Part) (grid : Grid) (cells : List ℕ) → IsPartOf src from part → are_ascending needs ≡ true → place < length needs → grid ≡ src.grid → cells ≡ (get_or needs place other).cells → filter (is_listed cells) (cells_of_part grid part) ≡ shared_cells src (is_picked needs) from (get_or (pickers_of needs) place 0)
shared-listed src needs from place other part grid cells is_part ascending inside same_grid same_cells =
    let pet = (get_or needs place other).pet in
    (λ i. filter (is_listed (same_cells i)) (cells_of_part (same_grid i) part))
    ∙ (λ i. filter (λ s. sym (picked-at 0 needs place other s ascending inside) i) (cells_of_part src.grid part))
    ∙ sym (shared-part src (is_picked needs) from pet part is_part)
    ∙ ap (shared_cells src (is_picked needs) from) (sym (pickers-at needs place other ascending inside))

-- where no list is a PET's, it picks nothing
none-picked : (needs : List Need) (pet s : ℕ) → ((k : ℕ) (other : Need) → k < length needs → (get_or needs k other).pet ≡ pet → ⊥) → is_picked needs pet s ≡ false
none-picked [] pet s none = refl
none-picked (need ∷ needs) pet s none =
    rw (ne_eqb need.pet pet (none 0 need (omega arith))) (none-picked needs pet s (λ k other inside. none (suc k) other (omega arith)))

-- and it has no list
none-listed : (needs : List Need) (pet : ℕ) → ((k : ℕ) (other : Need) → k < length needs → (get_or needs k other).pet ≡ pet → ⊥) → has_list needs pet ≡ false
none-listed [] pet none = refl
none-listed (need ∷ needs) pet none =
    rw (ne_eqb need.pet pet (none 0 need (omega arith))) (none-listed needs pet (λ k other inside. none (suc k) other (omega arith)))

-- distinct PETs: the first isn't any of the others'
others-differ : (need : Need) (needs : List Need) → ArePetsDistinct (need ∷ needs) → (k : ℕ) (other : Need) → k < length needs → (get_or needs k other).pet ≡ need.pet → ⊥
others-differ need needs distinct k other inside same =
    let equal : 0 ≡ suc k = distinct 0 (suc k) other (omega arith) (omega arith) (sym same) in absurd (omega arith)

-- and the others are distinct
others-distinct : (need : Need) (needs : List Need) → ArePetsDistinct (need ∷ needs) → ArePetsDistinct needs
others-distinct need needs distinct i j other in_i in_j same =
    let equal : suc i ≡ suc j = distinct (suc i) (suc j) other (omega arith) (omega arith) same in omega arith

-- a PET picks the cells of its list, and has one
picked-place : (needs : List Need) (pet place s : ℕ) (other : Need) → ArePetsDistinct needs → place < length needs → (get_or needs place other).pet ≡ pet → is_picked needs pet s ≡ is_listed (get_or needs place other).cells s
picked-place [] pet place s other distinct inside is = absurd (omega arith)
picked-place (need ∷ needs) pet zero s other distinct inside is =
    let none = none-picked needs pet s (λ k o within same. others-differ need needs distinct k o within (same ∙ sym is)) in
    rw (eq-eqb need.pet pet is, none) (or-false (is_listed need.cells s))
picked-place (need ∷ needs) pet (suc place) s other distinct inside is =
    let differ = others-differ need needs distinct place other (omega arith) in
    rw (ne_eqb need.pet pet (λ same. differ (is ∙ sym same))) (picked-place needs pet place s other (others-distinct need needs distinct) (omega arith) is)

listed-place : (needs : List Need) (pet place : ℕ) (other : Need) → place < length needs → (get_or needs place other).pet ≡ pet → has_list needs pet ≡ true
listed-place needs pet place other inside is = list_any_at (λ (need : Need). eqb need.pet pet) needs place other inside (eq-eqb (get_or needs place other).pet pet is)

-- one list more, behind those of lower PETs
ascending-push : (free bound : ℕ) (copies : List Need) (copy : Need) → are_ascending_from free copies ≡ true → ((k : ℕ) (other : Need) → k < length copies → (get_or copies k other).pet < bound) → bound ≤ copy.pet → free ≤ copy.pet → copy.pet < 256 → is_ascending 0 copy.cells ≡ true → are_ascending_from free (copies ++ copy ∷ []) ≡ true
ascending-push free bound [] copy ascending below next from byte cells =
    rw (le-leb free copy.pet from, lt-ltb copy.pet 256 byte, cells) refl
ascending-push free bound (first ∷ copies) copy ascending below next from byte cells =
    let parts = ascending-parts free first copies ascending in
    let lower = below 0 first (omega arith) in
    let rest = ascending-push (first.pet + 1) bound copies copy parts.rest (λ k other inside. below (suc k) other (omega arith)) next (omega arith) byte cells in
    rw (le-leb free first.pet parts.from, lt-ltb first.pet 256 parts.byte, parts.cells, rest) refl

-- the PETs of one list more
below-push : (bound : ℕ) (copies : List Need) (copy : Need) → ((k : ℕ) (other : Need) → k < length copies → (get_or copies k other).pet < bound) → copy.pet ≡ bound → (k : ℕ) (other : Need) → k < length (copies ++ copy ∷ []) → (get_or (copies ++ copy ∷ []) k other).pet < bound + 1
below-push bound [] copy below is zero other inside = omega arith
below-push bound [] copy below is (suc k) other inside = absurd (omega arith)
below-push bound (first ∷ copies) copy below is zero other inside = let lower = below 0 first (omega arith) in omega arith
below-push bound (first ∷ copies) copy below is (suc k) other inside =
    below-push bound copies copy (λ i o within. below (suc i) o (omega arith)) is k other (omega arith)

-- no copies
pub copies-none : (needs : List Need) → AreCopies needs [] 0
copies-none needs = record {
  ascending = refl;
  below = λ k other inside. absurd (omega arith);
  alike = record { picked = λ pet s below. absurd (omega arith); listed = λ pet below. absurd (omega arith) };
}

-- a PET without a list is passed
pub copies-pass : (needs copies : List Need) (pet : ℕ) → AreCopies needs copies pet → ((k : ℕ) (other : Need) → k < length needs → (get_or needs k other).pet ≡ pet → ⊥) → AreCopies needs copies (pet + 1)
copies-pass needs copies pet are none =
    let others : (k : ℕ) (other : Need) → k < length copies → (get_or copies k other).pet ≡ pet → ⊥ = λ k other inside is. let lower = are.below k other inside in omega arith in
    record {
      ascending = are.ascending;
      below = λ k other inside. let lower = are.below k other inside in omega arith;
      alike = record {
        picked = λ p s below. elim (cases_lt p pet) [
          | inl lower ↦ are.alike.picked p s lower
          | inr here ↦
              let same : p ≡ pet = omega arith in
              rw same (none-picked copies pet s others ∙ sym (none-picked needs pet s none))
        ];
        listed = λ p below. elim (cases_lt p pet) [
          | inl lower ↦ are.alike.listed p lower
          | inr here ↦
              let same : p ≡ pet = omega arith in
              rw same (none-listed copies pet others ∙ sym (none-listed needs pet none))
        ];
      };
    }

-- a PET with a list gets a copy
pub copies-push : (needs copies : List Need) (pet place : ℕ) (copy other : Need) → AreCopies needs copies pet → ArePetsDistinct needs → place < length needs → (get_or needs place other).pet ≡ pet → copy.pet ≡ pet → pet < 256 → is_ascending 0 copy.cells ≡ true → ((s : ℕ) → is_listed copy.cells s ≡ is_listed (get_or needs place other).cells s) → AreCopies needs (copies ++ copy ∷ []) (pet + 1)
copies-push needs copies pet place copy other are distinct inside is copy_is byte cells same_cells =
    let lower : (k : ℕ) (o : Need) → k < length copies → (get_or copies k o).pet ≡ pet → ⊥ = λ k o within same. let less = are.below k o within in omega arith in
    record {
      ascending = ascending-push 0 pet copies copy are.ascending are.below (omega arith) (omega arith) (omega arith) cells;
      below = below-push pet copies copy are.below copy_is;
      alike = record {
        picked = λ p s below. list_any-append (λ (need : Need). eqb need.pet p && is_listed need.cells s) copies (copy ∷ []) ∙ elim (cases_lt p pet) [
          | inl less ↦
              rw (ne_eqb copy.pet p (λ same. omega arith)) (or-false (is_picked copies p s) ∙ are.alike.picked p s less)
          | inr here ↦
              let same : p ≡ pet = omega arith in
              rw (same, none-picked copies pet s lower, eq-eqb copy.pet pet copy_is) (or-false (is_listed copy.cells s) ∙ same_cells s ∙ sym (picked-place needs pet place s other distinct inside is))
        ];
        listed = λ p below. list_any-append (λ (need : Need). eqb need.pet p) copies (copy ∷ []) ∙ elim (cases_lt p pet) [
          | inl less ↦
              rw (ne_eqb copy.pet p (λ same. omega arith)) (or-false (has_list copies p) ∙ are.alike.listed p less)
          | inr here ↦
              let same : p ≡ pet = omega arith in
              rw (same, none-listed copies pet lower, eq-eqb copy.pet pet copy_is) (sym (listed-place needs pet place other inside is))
        ];
      };
    }

-- numbers in order ascend
ascending-from : (least : ℕ) (xs : List ℕ) → ((k d : ℕ) → k < length xs → least ≤ get_or xs k d) → ((i j d : ℕ) → i ≤ j → j < length xs → get_or xs i d ≤ get_or xs j d) → is_ascending least xs ≡ true
ascending-from least [] from order = refl
ascending-from least (x ∷ xs) from order =
    rw (le-leb least x (from 0 0 (omega arith)))
    (ascending-from x xs (λ k d inside. order 0 (suc k) d (omega arith) (omega arith)) (λ i j d below inside. order (suc i) (suc j) d (omega arith) (omega arith)))

-- a sorted copy ascends and lists the same
pub sorted-ascending : (xs : List ℕ) → IsNonDecreasingBy (λ x. x) xs → is_ascending 0 xs ≡ true
sorted-ascending xs order = ascending-from 0 xs (λ k d inside. omega arith) order

pub sorted-listed : (xs ys : List ℕ) (s : ℕ) → IsPermutation xs ys → is_listed ys s ≡ is_listed xs s
sorted-listed xs ys s same = sym (list_any-IsPermutation (λ t. eqb t s) xs ys same)

-- legs by tests that agree on the receivers
legs_from-same : (src : Layout) (f g : ℕ → ℕ → Bool) (receivers : List ℕ) (from : ℕ) → ((to s : ℕ) → to < 256 → f to s ≡ g to s) → All (λ to. to < 256) receivers → legs_from src f receivers from ≡ legs_from src g receivers from
unfolding shared_cells
legs_from-same src f g [] from same bytes = refl
legs_from-same src f g (to ∷ receivers) from same bytes =
    let byte = All-head (λ t. t < 256) to receivers bytes in
    let leg : leg_between src f from to ≡ leg_between src g from to = λ i. record { from = from; to = to; cells = filter (λ s. same to s byte i) (cells_of src from) } in
    let rest = legs_from-same src f g receivers from same (All-tail (λ t. t < 256) to receivers bytes) in
    (λ i. cond (has_cells (leg i)) (leg i ∷ rest i) (rest i))

-- a route by lists that are alike
pub route-alike : (src : Layout) (needs copies : List Need) → ArePickedAlike needs copies → pick_route src copies ≡ pick_route src needs
unfolding route_of pickers_of
route-alike src needs copies alike =
    let pickers : filter (has_list copies) (range_with_len 0 256) ≡ filter (has_list needs) (range_with_len 0 256) =
    filter-same (has_list copies) (has_list needs) 0 256 (λ s from to. alike.listed s (omega arith)) in
    let bytes = All-filter (has_list needs) (λ to. to < 256) (range_with_len 0 256) (All-range (λ to. to < 256) 0 256 (λ s from to. omega arith)) in
    ap (λ receivers. flat_map (legs_from src (is_picked copies) receivers) (pets_of src)) pickers
    ∙ (λ i. flat_map (λ from. legs_from-same src (is_picked copies) (is_picked needs) (filter (has_list needs) (range_with_len 0 256)) from (λ to s byte. alike.picked to s byte) bytes i) (pets_of src))

-- the PETs that have a list rise
pub pickers-rising : (needs : List Need) → IsRising 0 (pickers_of needs)
unfolding pickers_of
pickers-rising needs = rising-filter (has_list needs) 0 (range_with_len 0 256) (rising-range 0 256)

-- are bytes
pub pickers-bytes : (needs : List Need) → All (λ to. to < 256) (pickers_of needs)
unfolding pickers_of
pickers-bytes needs =
    All-filter (has_list needs) (λ to. to < 256) (range_with_len 0 256) (All-range (λ to. to < 256) 0 256 (λ s from to. omega arith))

-- and are few
pub pickers-few : (needs : List Need) → length (pickers_of needs) ≤ 256
unfolding pickers_of
pickers-few needs = length-filter-le (has_list needs) (range_with_len 0 256)
