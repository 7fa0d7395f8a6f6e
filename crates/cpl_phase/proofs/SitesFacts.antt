-- One cell of a block more, one row more, and all rows.
use Rattle.std.proofs.Common.{◌≡◌, ℕ, ◌+◌, ◌<◌, List, [], ◌∷◌, ◌++◌, append_assoc, map, refl, sym, ap, subst, ◌∙◌, arith, add-one}
use Rattle.std.proofs.lemmas.Grind.{flat_map-append}
use Rattle.std.proofs.lemmas.List.{map-append}
use Rattle.std.proofs.lemmas.List.Elements.{All-append, All-cons, All-nil}
use Rattle.std.specs.List.{All, flat_map, range_with_len}
use Rattle.cpl_block.specs.Frames.{IsSpot, cell_at, home_of, place_at, places_in, stands_for}
use Rattle.cpl_block.specs.Laws.{IsFraming}
use Rattle.cpl_block.specs.declared.frame.Frame.{Frame}
use Rattle.cpl_grid.proofs.RangeFacts.{range-suc}
use Rattle.cpl_grid.specs.Blocks.{numbers_below}
use Rattle.cpl_grid.specs.Parts.{cells_of_part, part_cell, part_row}
use Rattle.cpl_phase.specs.Sites.{AreSites, AreSitesOf}
use Rattle.cpl_phase.specs.declared.sites.Sites.{Sites}

-- nothing behind a list
pub append-none : (xs : List ℕ) → xs ++ [] ≡ xs
append-none [] = refl
append-none (x ∷ xs) = ap (λ ys. x ∷ ys) (append-none xs)

-- one cell more
pub site-more : (frame : Frame) (cells : List ℕ) (a b place : ℕ) (old new : Sites) → IsFraming frame → IsSpot frame a b → place ≡ place_at frame a b
    → new.cells.items ≡ old.cells.items ++ cell_at frame a b ∷ [] → new.homes.items ≡ old.homes.items ++ place ∷ []
    → AreSitesOf frame cells old → AreSitesOf frame (cells ++ cell_at frame a b ∷ []) new
site-more frame cells a b place old new laws spot is cells_are homes_are before =
    let home = laws.here a b spot in
    let P : List ℕ → Type 0 = All (λ p. p < places_in frame) in
    let inside : place < places_in frame = rw is home.within in
    record {
      listed = cells_are ∙ ap (λ xs. xs ++ cell_at frame a b ∷ []) before.listed;
      homes = homes_are ∙ (λ i. before.homes i ++ (is ∙ sym (laws.home a b spot)) i ∷ [])
          ∙ sym (map-append (home_of frame) cells (cell_at frame a b ∷ []));
      within = subst P (sym homes_are)
          (All-append (λ p. p < places_in frame) old.homes.items (place ∷ []) before.within
          (All-cons (λ p. p < places_in frame) place [] inside (All-nil (λ p. p < places_in frame))));
      stands = ap (map (stands_for frame)) homes_are ∙ map-append (stands_for frame) old.homes.items (place ∷ [])
          ∙ (λ i. before.stands i ++ (ap (stands_for frame) is ∙ home.stands) i ∷ []);
    }

-- a run of cells of a row, with the next
pub run-more : (frame : Frame) (cells : List ℕ) (a b : ℕ) (sites : Sites)
    → AreSitesOf frame ((cells ++ range_with_len (part_cell frame.grid frame.part 0 b) a) ++ cell_at frame a b ∷ []) sites
    → AreSitesOf frame (cells ++ range_with_len (part_cell frame.grid frame.part 0 b) (a + 1)) sites
run-more frame cells a b sites are =
    let P : List ℕ → Type 0 = λ xs. AreSitesOf frame xs sites in
    let start = part_cell frame.grid frame.part 0 b in
    let next : cell_at frame a b ≡ start + a = omega arith in
    subst P (append_assoc cells (range_with_len start a) (cell_at frame a b ∷ [])
    ∙ ap (λ s. cells ++ (range_with_len start a ++ s ∷ [])) next
    ∙ ap (λ xs. cells ++ xs) (sym (range-suc start a))
    ∙ ap (λ n. cells ++ range_with_len start n) (sym (add-one a))) are

-- the rows of one number
one-row : (f : ℕ → List ℕ) (b : ℕ) → f b ≡ flat_map f (b ∷ [])
one-row f b = sym (append-none (f b))

-- one row more
pub rows-more : (frame : Frame) (b : ℕ) (sites : Sites)
    → AreSitesOf frame (flat_map (part_row frame.grid frame.part) (numbers_below b) ++ part_row frame.grid frame.part b) sites
    → AreSitesOf frame (flat_map (part_row frame.grid frame.part) (numbers_below (b + 1))) sites
rows-more frame b sites are =
    let P : List ℕ → Type 0 = λ xs. AreSitesOf frame xs sites in
    let row = part_row frame.grid frame.part in
    let from_zero : 0 + b ≡ b = omega arith in
    subst P (ap (λ xs. flat_map row (numbers_below b) ++ xs) (one-row row b)
    ∙ sym (flat_map-append row (numbers_below b) (b ∷ []))
    ∙ ap (λ k. flat_map row (numbers_below b ++ k ∷ [])) (sym from_zero)
    ∙ ap (flat_map row) (sym (range-suc 0 b))
    ∙ ap (λ n. flat_map row (numbers_below n)) (sym (add-one b))) are

-- all rows
pub rows-all : (frame : Frame) (b : ℕ) (sites : Sites) → b ≡ frame.part.rows.length
    → AreSitesOf frame (flat_map (part_row frame.grid frame.part) (numbers_below b)) sites → AreSites frame sites
unfolding cells_of_part
rows-all frame b sites is are =
    let P : ℕ → Type 0 = λ n. AreSitesOf frame (flat_map (part_row frame.grid frame.part) (numbers_below n)) sites in
    subst P is are
