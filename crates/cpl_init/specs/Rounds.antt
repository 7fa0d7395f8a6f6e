-- What the code looks up in each round, which a reader of the promises can leave out.
use Rattle.std.specs.Prelude.{◌≡◌, ℕ, ◌+◌, ◌-◌, ◌*◌, ◌/◌, ◌%◌, ◌<◌, ◌≤◌, ◌==◌, ◌&&◌, not, Bool, true, List, Option, length, filter, find, if◌then◌else◌}
use Rattle.std.specs.List.{range_with_len, slice_index, slice_index_or}
use Rattle.cpl_init.specs.Orders.{has_number, is_needed}
use Rattle.cpl_init.specs.declared.needs.Needs.{Needs}

-- how many producers that a component needs aren't among those before
unfoldable pub missing_of : ℕ → List Needs → List ℕ → ℕ → ℕ
missing_of count needs before component =
    length (filter (λ producer. is_needed needs component producer && not (has_number before producer)) (range_with_len 0 count))

-- a table of who needs whom, row by row, how many producers each misses, and who is among those before
pub record IsRounds (count : ℕ) (needs : List Needs) (before : List ℕ) (needed : List Bool) (missing : List ℕ) (placed : List Bool) : Type 0 where
  pub cells : length needed ≡ count * count
  pub counts : length missing ≡ count
  pub places : length placed ≡ count
  pub cell : (i : ℕ) → i < count * count → slice_index_or needed i true ≡ is_needed needs (i / count) (i % count)
  pub misses : (c : ℕ) → c < count → slice_index missing c ≡ missing_of count needs before c
  pub is_placed : (c : ℕ) → c < count → slice_index_or placed c true ≡ has_number before c

-- the first component that isn't placed and misses none
unfoldable pub first_free_component : ℕ → List ℕ → List Bool → Option ℕ
first_free_component count missing placed =
    find (λ c. not (slice_index_or placed c true) && slice_index missing c == 0) (range_with_len 0 count)

-- the components that aren't placed, ascending
unfoldable pub free_components : ℕ → List Bool → List ℕ
free_components count placed = filter (λ c. not (slice_index_or placed c true)) (range_with_len 0 count)

-- whether a component needs another by the table
abbrev pub is_in_table : ℕ → List Bool → ℕ → ℕ → Bool
is_in_table count needed component producer = slice_index_or needed (component * count + producer) true

-- each component that needs this one misses some
pub record MissesEach (count component : ℕ) (needed : List Bool) (missing : List ℕ) : Type 0 where
  pub some : (c : ℕ) → c < count → is_in_table count needed c component ≡ true → 0 < slice_index missing c

-- the components below high that need this one miss one less than before
pub record IsLoweredBelow (high count component : ℕ) (needed : List Bool) (before after : List ℕ) : Type 0 where
  pub below : (c : ℕ) → c < high → slice_index after c ≡ slice_index before c - (if is_in_table count needed c component then 1 else 0)
  pub above : (c : ℕ) → high ≤ c → slice_index after c ≡ slice_index before c

-- all components that need this one do
abbrev pub IsLowered : ℕ → ℕ → List Bool → List ℕ → List ℕ → Type 0
IsLowered count component needed before after = IsLoweredBelow count count component needed before after
