-- Fields that are filled place by place with a number of each cell.
use Rattle.std.proofs.Common.{◌≡◌, ℕ, ◌+◌, ◌<◌, ◌≤◌, List, ℤ, pos, get_or, length, map, set, sym, ap, subst, take, ◌∙◌, arith}
use Rattle.std.proofs.lemmas.List.{length-set, take_all}
use Rattle.std.proofs.lemmas.List.FromFn.{get_or-map-range_with_len}
use Rattle.std.specs.List.{All, range_with_len}
use Rattle.cpl_base.specs.Numbers.{IsValue}
use Rattle.cpl_block.specs.Frames.{places_in, stands_for}
use Rattle.cpl_block.specs.declared.frame.Frame.{Frame}
use Rattle.cpl_rule.specs.Numbered.{IsNumbered}
use Rattle.cpl_rule.proofs.SweptFacts.{ran-more, within-more}

-- the first so many places hold the values of their cells
pub record IsNumberedUpTo (count : ℕ) (frame : Frame) (value : ℕ → ℤ) (field : List ℤ) : Type 0 where
  pub places : length field ≡ places_in frame
  pub values : All IsValue (take count field)
  pub numbers : take count field ≡ map (λ place. value (stands_for frame place)) (range_with_len 0 count)

-- one place more
pub numbered-more : (frame : Frame) (value : ℕ → ℤ) (place : ℕ) (field : List ℤ) (v : ℤ) → place < length field → IsNumberedUpTo place frame value field → v ≡ value (stands_for frame place) → IsValue v → IsNumberedUpTo (place + 1) frame value (set field place v)
numbered-more frame value place field v inside before is within = record {
  places = length-set field place v ∙ before.places;
  values = within-more place field v inside before.values within;
  numbers = ran-more (λ p. value (stands_for frame p)) place field v inside before.numbers is;
}

-- all places
pub numbered-all : (frame : Frame) (value : ℕ → ℤ) (count : ℕ) (field : List ℤ) → length field ≤ count → IsNumberedUpTo count frame value field → IsNumbered frame value field
numbered-all frame value count field all numbered =
    let whole_field : take count field ≡ field = take_all count field all in
    let V : List ℤ → Type 0 = All IsValue in
    record {
      places = numbered.places;
      values = subst V whole_field numbered.values;
      ringed = λ place within.
          let below : place < count = omega (arith, within, all, numbered.places) in
          ap (λ xs. get_or xs place (pos 0)) (sym whole_field ∙ numbered.numbers)
          ∙ get_or-map-range_with_len (λ p. value (stands_for frame p)) 0 count place place (pos 0) below (omega arith);
    }
