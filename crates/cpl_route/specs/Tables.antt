-- A table of legs over one list of cells. The steps of the code, not needed to read what the calls promise.
use Rattle.std.specs.Prelude.{◌≡◌, ℕ, ◌+◌, ◌*◌, ◌<◌, ◌≤◌, ◌++◌, Bool, List, length, map, slice_range, take, ◌-◌, ◌^◌}
use Rattle.std.specs.List.{All, flat_map, range_with_len}
use Rattle.cpl_route.specs.Routes.{IsRising, Leg, cells_sent, legs_from}
use Rattle.cpl_grid.specs.Owners.{Layout}
use Rattle.cpl_route.specs.declared.table.Span.{Span}

-- the leg whose cells stand in a span
abbrev pub leg_at : List ℕ → Span → Leg
leg_at cells span = record { from = span.from; to = span.to; cells = slice_range cells span.start span.end }

-- the legs of a table
unfoldable pub legs_at : List Span → List ℕ → List Leg
legs_at spans cells = map (leg_at cells) spans

-- the rank of a pair among all pairs: by the first, then by the second
abbrev pub rank_of : ℕ → ℕ → ℕ
rank_of from to = from * 256 + to

-- a span lies within so many cells, and its PETs are bytes
pub record IsSpan (size : ℕ) (span : Span) : Type 0 where
  pub order : span.start ≤ span.end
  pub within : span.end ≤ size
  pub from : span.from < 256
  pub to : span.to < 256

-- the spans lie within the cells, which are those of the legs one behind the other
pub record IsTable (spans : List Span) (cells : List ℕ) : Type 0 where
  pub within : All (IsSpan (length cells)) spans
  pub whole : flat_map (λ leg. leg.cells) (legs_at spans cells) ≡ cells

-- a table has further legs
pub record HasLegs (before_spans : List Span) (before_cells : List ℕ) (legs : List Leg) (spans : List Span) (cells : List ℕ) : Type 0 where
  pub table : IsTable spans cells
  pub added : legs_at spans cells ≡ legs_at before_spans before_cells ++ legs

-- the rank of a leg, and of a span
abbrev pub leg_rank : Leg → ℕ
leg_rank leg = rank_of leg.from leg.to

abbrev pub span_rank : Span → ℕ
span_rank span = rank_of span.from span.to

-- what holds of the legs of a route, by their ranks
pub record AreRankedLegs (legs : List Leg) : Type 0 where
  pub rising : IsRising 0 (map leg_rank legs)
  pub bytes : All (λ leg. leg.to < 256) legs
  pub some : All (λ leg. 0 < length leg.cells) legs

-- the pairs of spans
abbrev pub pairs_of : List Span → List (ℕ × ℕ)
pairs_of spans = map (λ span. (span.from, span.to)) spans

-- the pairs of a table whose legs are ranked
pub record IsRoute (pairs : List (ℕ × ℕ)) (spans : List Span) (cells : List ℕ) : Type 0 where
  pub table : IsTable spans cells
  pub ranked : AreRankedLegs (legs_at spans cells)
  pub ends : pairs ≡ pairs_of spans

-- so many receivers were gone through
pub record HasReceivers (src : Layout) (is_needed : ℕ → ℕ → Bool) (receivers : List ℕ) (from place : ℕ) (total : ℕ) : Type 0 where
  pub value : total ≡ cells_sent (legs_from src is_needed (take place receivers) from)
  pub few : total ≤ place * 2 ^ 20

-- the senders from the first on, up to one, were gone through
pub record HasSenders (src : Layout) (is_needed : ℕ → ℕ → Bool) (receivers : List ℕ) (from : ℕ) (total : ℕ) : Type 0 where
  pub value : total ≡ cells_sent (flat_map (legs_from src is_needed receivers) (range_with_len src.first_pet (from - src.first_pet)))
  pub few : total ≤ (from - src.first_pet) * 2 ^ 28
