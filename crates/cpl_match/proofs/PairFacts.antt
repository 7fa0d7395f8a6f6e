-- What holds of pairs that were matched.
use Rattle.std.proofs.Common.{◌≡◌, ℕ, Bool, true, false, not, cond, if◌then◌else◌, ◌&&◌, ◌||◌, nat_lt, eqb, List, [], ◌∷◌, ◌++◌, map, filter, All, Option, Some, None, is_some, Result, Ok, Err, refl, sym, ap, ◌∙◌, append_assoc}
use Rattle.std.proofs.lemmas.Bool.{and_from, and_parts, eq-eqb, eqb-true}
use Rattle.std.proofs.lemmas.List.{append-nil, map_push}
use Rattle.std.proofs.lemmas.List.Elements.{All-nil, All-push}
use Rattle.std.specs.List.{AllByRecursion, list_any}
use Rattle.std.specs.Option.{IsSomeAnd, option_to_list}
use Rattle.std.specs.Prelude.{slice_index}
use Rattle.cpl_base.specs.ResultChain.{◌>>=◌}
use Rattle.cpl_dict.specs.Dict.{Dictionary, bond_of}
use Rattle.cpl_match.specs.declared.fault.MatchFault.TheVariants.{SizeDiffers, Unmatched}
use Rattle.cpl_match.specs.Matching.{best_ports, is_best, is_import, is_uneven, matched_pairs, pair_of, pairs_with, way_between}
use Rattle.cpl_match.specs.Pairs.{ArePairs, IsPair, field_of, has_pair, import_of, is_at}
use Rattle.cpl_match.specs.declared.port.Pair.{Pair}
use Rattle.cpl_match.specs.declared.port.Port.{Port}
use Rattle.cpl_match.specs.declared.port.Way.{Way}

-- ---- members

-- a test that holds of it holds of a member of the list
abbrev pub IsIn : List Port → Port → Type 0
IsIn ports port = (test : Port → Bool) → test port ≡ true → list_any test ports ≡ true

-- one in front, or one behind it
or-true : (a b : Bool) → b ≡ true → (a || b) ≡ true
or-true true b there = refl
or-true false b there = there

-- a member behind another
IsIn-cons : (first port : Port) (ports : List Port) → IsIn ports port → IsIn (first ∷ ports) port
IsIn-cons first port ports there test holds = or-true (test first) (list_any test ports) (there test holds)

-- the first member
IsIn-first : (first : Port) (ports : List Port) → IsIn (first ∷ ports) first
IsIn-first first ports test holds = ap (λ b. b || list_any test ports) holds

-- what passes a test, and is a member
abbrev pub IsPassing : (Port → Bool) → List Port → Port → Type 0
IsPassing test ports port = (test port ≡ true) × IsIn ports port

-- members behind another
IsPassing-cons : (test : Port → Bool) (first : Port) (ports found : List Port) → AllByRecursion (IsPassing test ports) found → AllByRecursion (IsPassing test (first ∷ ports)) found
IsPassing-cons test first ports [] all = tt
IsPassing-cons test first ports (p ∷ ps) all = ((all.0.0, IsIn-cons first p ports all.0.1), IsPassing-cons test first ports ps all.1)

-- what is filtered passes the test, and is a member
filter-passing : (test : Port → Bool) (ports : List Port) → AllByRecursion (IsPassing test ports) (filter test ports)
filter-passing test [] = tt
filter-passing test (port ∷ ports) = step (test port) refl (IsPassing-cons test port ports (filter test ports) (filter-passing test ports))
  where
    step : (b : Bool) → test port ≡ b → AllByRecursion (IsPassing test (port ∷ ports)) (filter test ports)
        → AllByRecursion (IsPassing test (port ∷ ports)) (cond b (port ∷ filter test ports) (filter test ports))
    step true is behind = ((is, IsIn-first port ports), behind)
    step false is behind = behind

-- ---- one pair

-- a fit above 0 is that of an export with a way
cond-above_zero : (b : Bool) (bond : ℕ) → nat_lt 0 (cond b bond 0) ≡ true → b ≡ true
cond-above_zero true bond some = refl
cond-above_zero false bond some = absurd (cc)

-- a way that is there, between equal numbers of cells where it redistributes
is_uneven-false : (cells : List ℕ) (found : Option Way) (src dst : ℕ) → is_some found ≡ true → is_uneven found (slice_index cells src) (slice_index cells dst) ≡ false
    → IsSomeAnd found (λ way. way.redist ≡ true → slice_index cells src ≡ slice_index cells dst)
is_uneven-false cells None src dst there even = absurd (cc)
is_uneven-false cells (Some way) src dst there even = λ redist.
    let differs : not (eqb (slice_index cells src) (slice_index cells dst)) ≡ false = ap (λ b. b && not (eqb (slice_index cells src) (slice_index cells dst))) (sym redist) ∙ even in
    eqb-true (slice_index cells src) (slice_index cells dst) (not-false (eqb (slice_index cells src) (slice_index cells dst)) differs)
  where
    not-false : (b : Bool) → not b ≡ false → b ≡ true
    not-false true is = refl
    not-false false is = absurd (cc)

-- a field is where it is
is_at-itself : (port : Port) → is_at port.component port.field port ≡ true
is_at-itself port = and_from (eqb port.component port.component) (eqb port.field port.field) (eq-eqb port.component port.component refl) (eq-eqb port.field port.field refl)

-- the pair of an import and the port that fits it best
IsPair-best : (d : Dictionary) (cells : List ℕ) (ways : List Way) (ports : List Port) (import port : Port) → is_import import ≡ true → IsIn ports import
    → is_best d ways ports import port ≡ true → IsIn ports port → is_uneven (way_between ways port.component import.component) (slice_index cells port.component) (slice_index cells import.component) ≡ false
    → IsPair cells ways ports (record { src = port.component; src_field = port.field; dst = import.component; dst_field = import.field })
IsPair-best d cells ways ports import port imports import_in best port_in even =
    let fits = and_parts _ _ best in
    let parts = and_parts (not port.import) (is_some (way_between ways port.component import.component)) (cond-above_zero (not port.import && is_some (way_between ways port.component import.component)) (bond_of d port.standard import.standard) fits.0) in
    record {
      export = port_in (λ p. not p.import && is_at port.component port.field p) (and_from (not port.import) (is_at port.component port.field port) parts.0 (is_at-itself port));
      import = import_in (λ p. p.import && is_at import.component import.field p) (and_from import.import (is_at import.component import.field import) imports (is_at-itself import));
      way = is_uneven-false cells (way_between ways port.component import.component) port.component import.component parts.1 even;
    }

-- ---- all pairs

-- one step after another
bind-Ok : {A B F : Type 0} (o : Result A F) (f : A → Result B F) (y : B) → (o >>= f) ≡ Ok y → (x : A) × (o ≡ Ok x) × (f x ≡ Ok y)
bind-Ok (Ok x) f y is = (x, refl, is)
bind-Ok (Err fault) f y is = absurd (cc)

-- The pairs so far, with those of an import, are pairs; there is one where some port fits the import.
record IsMore (d : Dictionary) (cells : List ℕ) (ways : List Way) (ports : List Port) (import : Port) (before after : List Pair) : Type 0 where
  each : All (IsPair cells ways ports) after
  imports : map import_of after ≡ map import_of before ++ map field_of (if has_pair d ways ports import then import ∷ [] else [])

-- what becomes of one import
pair_of-more : (d : Dictionary) (cells : List ℕ) (ways : List Way) (ports : List Port) (import : Port) (before : List Pair) (best : List Port) (found : Option Pair) → IsPassing is_import ports import
    → best ≡ best_ports d ways ports import → AllByRecursion (IsPassing (is_best d ways ports import) ports) best → All (IsPair cells ways ports) before
    → pair_of cells ways import best ≡ Ok found → IsMore d cells ways ports import before (before ++ option_to_list found)
pair_of-more d cells ways ports import before [] found own is passing each outcome = none import.optional outcome
  where
    none : (b : Bool) → cond b (Ok None) (Err (Unmatched import.component import.field)) ≡ Ok found → IsMore d cells ways ports import before (before ++ option_to_list found)
    none true outcome =
        let nothing : found ≡ None = cc in
        rw (nothing, append-nil before) (record { each = each; imports = rw (← is) (sym (append-nil (map import_of before))) })
    none false outcome = absurd (cc)
pair_of-more d cells ways ports import before (port ∷ []) found own is passing each outcome =
    one (is_uneven (way_between ways port.component import.component) (slice_index cells port.component) (slice_index cells import.component)) refl outcome
  where
    made : Pair
    made = record { src = port.component; src_field = port.field; dst = import.component; dst_field = import.field }

    one : (b : Bool) → is_uneven (way_between ways port.component import.component) (slice_index cells port.component) (slice_index cells import.component) ≡ b
        → cond b (Err (SizeDiffers port.component import.component)) (Ok (Some made)) ≡ Ok found → IsMore d cells ways ports import before (before ++ option_to_list found)
    one true is_it outcome = absurd (cc)
    one false even outcome =
        let some : found ≡ Some made = cc in
        rw some (record {
          each = All-push (IsPair cells ways ports) before made each (IsPair-best d cells ways ports import port own.0 own.1 passing.0.0 passing.0.1 even);
          imports = rw (map_push import_of before made, ← is) refl;
        })
pair_of-more d cells ways ports import before (first ∷ second ∷ more) found own is passing each outcome = absurd (cc)

-- a port between others, where a test holds
map-field_of-regrouped : (front : List (ℕ × ℕ)) (port : Port) (behind : List Port) (b : Bool) → (front ++ map field_of (cond b (port ∷ []) [])) ++ map field_of behind ≡ front ++ map field_of (cond b (port ∷ behind) behind)
map-field_of-regrouped front port behind true = append_assoc front (field_of port ∷ []) (map field_of behind)
map-field_of-regrouped front port behind false = append_assoc front [] (map field_of behind)

-- what becomes of all
pairs_with-more : (d : Dictionary) (cells : List ℕ) (ways : List Way) (ports imports : List Port) (before after : List Pair) → AllByRecursion (IsPassing is_import ports) imports
    → All (IsPair cells ways ports) before → pairs_with d cells ways ports before imports ≡ Ok after
    → All (IsPair cells ways ports) after × (map import_of after ≡ map import_of before ++ map field_of (filter (has_pair d ways ports) imports))
pairs_with-more d cells ways ports [] before after own each outcome =
    let same : before ≡ after = cc in
    rw (← same) (each, sym (append-nil (map import_of before)))
pairs_with-more d cells ways ports (import ∷ imports) before after own each outcome =
    let step = bind-Ok (pair_of cells ways import (best_ports d ways ports import)) (λ pair. pairs_with d cells ways ports (before ++ option_to_list pair) imports) after outcome in
    let one = pair_of-more d cells ways ports import before (best_ports d ways ports import) step.0 own.0 refl (filter-passing (is_best d ways ports import) ports) each step.1 in
    let all = pairs_with-more d cells ways ports imports (before ++ option_to_list step.0) after own.1 one.each step.2 in (
      all.0,
      all.1 ∙ ap (λ (fields : List (ℕ × ℕ)). fields ++ map field_of (filter (has_pair d ways ports) imports)) one.imports
          ∙ map-field_of-regrouped (map import_of before) import (filter (has_pair d ways ports) imports) (has_pair d ways ports import),
    )

-- what is matched
pub ArePairs-matched : (d : Dictionary) (cells : List ℕ) (ways : List Way) (ports : List Port) (pairs : List Pair) → matched_pairs d cells ways ports ≡ Ok pairs → ArePairs d cells ways ports pairs
ArePairs-matched d cells ways ports pairs is =
    let all = pairs_with-more d cells ways ports (filter is_import ports) [] pairs (filter-passing is_import ports) (All-nil (IsPair cells ways ports)) is in
    record { each = all.0; imports = all.1 }
