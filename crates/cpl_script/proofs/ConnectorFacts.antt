-- The connectors of accepted parts are connectors of a system.
use Rattle.std.proofs.Common.{◌≡◌, ℕ, zero, suc, true, false, eqb, List, [], ◌∷◌, filter, length, map, get_or, Some, None, Option, ap, ◌∙◌, sym, refl, subst, arith}
use Rattle.std.specs.Prelude.{IfSome, IsSomeAnd, slice_get, slice_index}
use Rattle.std.specs.List.{All, zip}
use Rattle.std.proofs.lemmas.Bool.{and_parts, eqb-true}
use Rattle.std.proofs.lemmas.List.{length-map}
use Rattle.std.proofs.lemmas.List.Elements.{All-map}
use Rattle.cpl_comp.specs.declared.component.Comp.{Comp}
use Rattle.cpl_match.specs.Matching.{is_between, way_between}
use Rattle.cpl_match.specs.Pairs.{IsPair}
use Rattle.cpl_match.specs.declared.port.Pair.{Pair}
use Rattle.cpl_match.specs.declared.port.Way.{Way}
use Rattle.cpl_sequence.specs.Bounds.{AreOfPairs, IsLinkOver}
use Rattle.cpl_sequence.specs.declared.link_line.LinkLine.{LinkLine}
use Rattle.cpl_sequence.proofs.ListFacts.{All-at}
use Rattle.cpl_smm.specs.Rows.{Table}
use Rattle.cpl_script.specs.Drafts.{IsDraft, draft_of}
use Rattle.cpl_script.specs.Matched.{cell_counts, is_redist, name_of, names_of, ports_of, way_of}
use Rattle.cpl_script.specs.Sound.{AreParts, AreWeights, IsCarried, cells_at}
use Rattle.cpl_script.specs.Systems.{is_pair_of}
use Rattle.cpl_script.specs.declared.parts.SystemParts.{SystemParts}
use Rattle.cpl_script.proofs.ListFacts.{All-passed, find-found, get-mapped, some-first, zip-first}
use Rattle.cpl_script.proofs.PortFacts.{port-role}

-- how many cells the component of a place has, once more
pub cells-at : (comps : List Comp) (component : ℕ) → slice_index (cell_counts comps) component ≡ cells_at comps component
cells-at [] component = refl
cells-at (comp ∷ comps) zero = refl
cells-at (comp ∷ comps) (suc component) = cells-at comps component

-- Where a pair of a line leads.
record LeadsBetween (line : LinkLine) (pair : Pair) : Type 0 where
  src : pair.src ≡ line.src
  dst : pair.dst ≡ line.dst

-- a pair of a line leads between its components
leads-between : (line : LinkLine) (pair : Pair) → is_pair_of line pair ≡ true → LeadsBetween line pair
leads-between line pair own =
    let parts = and_parts (eqb pair.src line.src) (eqb pair.dst line.dst) own in
    record { src = eqb-true pair.src line.src parts.0; dst = eqb-true pair.dst line.dst parts.1 }

-- a field of a component that is there
if-there : {X : Type 0} (o : Option X) (P : X → Type 0) → ((x : X) → o ≡ Some x → P x) → IfSome o P
if-there None P each = tt
if-there (Some x) P each = each x refl

-- a pair of a line is one that its connector carries
pair-carried : (comps : List Comp) (ways : List Way) (line : LinkLine) (pair : Pair) → IsPair (cell_counts comps) ways (ports_of comps) pair → is_pair_of line pair ≡ true → IsCarried comps line pair
pair-carried comps ways line pair is own =
    let leads = leads-between line pair own in
    record {
      src = leads.src;
      dst = leads.dst;
      export = if-there (slice_get comps pair.src) _ (λ comp there. port-role false pair.src pair.src_field comps is.export comp there);
      import = if-there (slice_get comps pair.dst) _ (λ comp there. port-role true pair.dst pair.dst_field comps is.import comp there);
    }

-- the way between the components of a line is the line's, since no other line has them
way-is : (lines : List LinkLine) (k : ℕ) (line : LinkLine) (way : Way) → AreOfPairs lines → slice_get lines k ≡ Some line → way_between (map way_of lines) line.src line.dst ≡ Some way → way_of line ≡ way
way-is lines k line way own there is =
    let found = find-found (is_between line.src line.dst) (map way_of lines) way is in
    let of = get-mapped way_of lines found.place way found.at in
    let parts = and_parts (eqb way.src line.src) (eqb way.dst line.dst) found.passes in
    let from : of.of.src ≡ line.src = ap (λ (w : Way). w.src) of.is ∙ eqb-true way.src line.src parts.0 in
    let to : of.of.dst ≡ line.dst = ap (λ (w : Way). w.dst) of.is ∙ eqb-true way.dst line.dst parts.1 in
    let one : found.place ≡ k = own.unique found.place k of.of line of.at there from to in
    let at : slice_get lines k ≡ Some of.of = ap (slice_get lines) (sym one) ∙ of.at in
    let same : line ≡ of.of = cc in
    ap way_of same ∙ of.is

-- what holds of a way that is there, where it is known
some-known : (o : Option Way) (known : Way) (P : Way → Type 0) → ((way : Way) → o ≡ Some way → known ≡ way) → IsSomeAnd o P → P known
some-known None known P is holds = absurd holds
some-known (Some way) known P is holds = subst P (sym (is way refl)) holds

-- equal numbers of cells where a line redistributes and has a pair
pair-even : (comps : List Comp) (lines : List LinkLine) (k : ℕ) (line : LinkLine) (pair : Pair) → AreOfPairs lines → slice_get lines k ≡ Some line → is_redist line.method ≡ true → IsPair (cell_counts comps) (map way_of lines) (ports_of comps) pair → is_pair_of line pair ≡ true → cells_at comps line.src ≡ cells_at comps line.dst
pair-even comps lines k line pair own there redist is mine =
    let leads = leads-between line pair mine in
    let ways = map way_of lines in
    let even = some-known (way_between ways pair.src pair.dst) (way_of line) (λ way. way.redist ≡ true → slice_index (cell_counts comps) pair.src ≡ slice_index (cell_counts comps) pair.dst)
    (λ way at. way-is lines k line way own there ((λ i. way_between ways (sym leads.src i) (sym leads.dst i)) ∙ at)) is.way redist in
    sym (cells-at comps line.src) ∙ ap (slice_index (cell_counts comps)) (sym leads.src) ∙ even ∙ ap (slice_index (cell_counts comps)) leads.dst ∙ cells-at comps line.dst

-- the draft of a line
draft-sound : (parts : SystemParts) (k : ℕ) (given : LinkLine × Option Table) → AreParts parts → slice_get parts.seq.links k ≡ Some given.0 → AreWeights parts.comps parts.pairs given → IsDraft parts.comps (draft_of parts.pairs given)
draft-sound parts k given are there weights =
    let line = given.0 in
    let comps = parts.comps in
    let ways = map way_of parts.seq.links in
    let over = All-at (IsLinkOver (names_of comps)) parts.seq.links k line are.over.ends there in
    let count : length (names_of comps) ≡ length comps = length-map comps name_of in
    record {
      src_below = omega (arith, over.src_below);
      dst_below = omega (arith, over.dst_below);
      differ = over.differ;
      pairs = All-passed (IsPair (cell_counts comps) ways (ports_of comps)) (IsCarried comps line) (is_pair_of line) (pair-carried comps ways line) parts.pairs are.pairs.each;
      route = refl;
      even = λ none some.
          let own = filter (is_pair_of line) parts.pairs in
          let redist = weights.needed none some in
          let inside = some-first own some in
          let Even : Pair → Type 0 = λ pair. cells_at comps line.src ≡ cells_at comps line.dst in
          All-passed (IsPair (cell_counts comps) ways (ports_of comps)) Even (is_pair_of line) (λ pair is mine. pair-even comps parts.seq.links k line pair are.over.pairs there redist is mine) parts.pairs are.pairs.each 0 (record { src = 0; src_field = 0; dst = 0; dst_field = 0 }) inside;
      between = weights.between;
    }

-- the drafts of all lines
pub drafts-sound : (parts : SystemParts) → AreParts parts → All (IsDraft parts.comps) (map (draft_of parts.pairs) (zip parts.seq.links parts.weights))
drafts-sound parts are =
    let given = zip parts.seq.links parts.weights in
    All-map (IsDraft parts.comps) (draft_of parts.pairs) given (λ k d inside.
    draft-sound parts k (get_or given k d) are (zip-first parts.seq.links parts.weights k d inside) (are.weights k d inside))
