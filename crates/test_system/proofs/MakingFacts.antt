-- Parts that were made step by step are accepted; and lists that grow by one member.
use Rattle.std.proofs.Common.{◌≡◌, ℕ, ℤ, pos, ◌+◌, ◌*◌, ◌<◌, ◌≤◌, ◌≤ℤ◌, ◌<ℤ◌, ◌+ℤ◌, ◌^◌, List, [], ◌∷◌, ◌++◌, Some, None, Option, length, get_or, map, take, ap, ◌∙◌, sym, refl, subst, arith}
use Rattle.std.specs.Prelude.{IfSome, sum_by}
use Rattle.std.specs.List.{All, cons_option, enumerate_from, filter_map, flat_map, zip}
use Rattle.std.specs.Option.{ForSome, option_to_list}
use Rattle.std.proofs.lemmas.Int.{ints}
use Rattle.std.proofs.lemmas.List.{append-nil, length-map, length-take, take_more}
use Rattle.std.proofs.lemmas.List.Concat.{flat_map-append}
use Rattle.std.proofs.lemmas.List.Elements.{All-map, All-nil, All-push, All-weaker, filter_map-append}
use Rattle.std.proofs.lemmas.List.FromFn.{get_or-enumerate_from, length-enumerate_from}
use Rattle.cpl_calendar.specs.Calendar.{end_of_time}
use Rattle.cpl_calendar.specs.declared.calendar.Cal.TheVariants.{Gregorian}
use Rattle.cpl_clock.specs.Alarm.{IsRegular}
use Rattle.cpl_comp.specs.Components.{IsComponent, IsSubstep, Limits}
use Rattle.cpl_comp.specs.declared.component.Comp.{Comp}
use Rattle.cpl_dict.specs.Dict.{Dictionary}
use Rattle.cpl_grid.specs.Grid.{cells_in}
use Rattle.cpl_init.specs.Waiting.{IsInitialOrder}
use Rattle.cpl_match.specs.Pairs.{ArePairs}
use Rattle.cpl_match.specs.declared.port.Pair.{Pair}
use Rattle.cpl_runseq.specs.Asked.{HasFewPhases, IsAsked, IsStep}
use Rattle.cpl_sequence.specs.Bounds.{IsOver}
use Rattle.cpl_sequence.specs.Sequence.{Sequence}
use Rattle.cpl_smm.specs.Rows.{Table}
use Rattle.cpl_script.specs.Matched.{cell_counts, name_of, names_of, ports_of, way_of}
use Rattle.cpl_script.specs.Operations.{needs_in}
use Rattle.cpl_script.specs.Sound.{AreParts, AreWeights}
use Rattle.test_system.specs.Weighed.{AreRead, IsWeighed}

-- ---- one member more

-- of lists joined over numbered members
pub numbered-more : {X Y : Type 0} (f : ℕ × X → List Y) (xs : List X) (k : ℕ) (x : X) → k < length xs → x ≡ get_or xs k x → flat_map f (take (k + 1) (enumerate_from 0 xs)) ≡ flat_map f (take k (enumerate_from 0 xs)) ++ f (k, x)
numbered-more f xs k x inside is =
    let numbered = enumerate_from 0 xs in
    let within : k < length numbered = omega (arith, length-enumerate_from 0 xs) in
    let place : 0 + k ≡ k = omega arith in
    let at : get_or numbered k (k, x) ≡ (k, x) = get_or-enumerate_from 0 xs k (k, x) inside ∙ (λ i. (place i, sym is i)) in
    ap (flat_map f) (take_more numbered k (k, x) within)
    ∙ flat_map-append f (take k numbered) (get_or numbered k (k, x) ∷ [])
    ∙ ap (λ ys. flat_map f (take k numbered) ++ ys) (append-nil (f (get_or numbered k (k, x))) ∙ ap f at)

-- of what there is of one member
lone : {X Y : Type 0} (f : X → Option Y) (x : X) → filter_map f (x ∷ []) ≡ option_to_list (f x)
lone f x = elim (f x) as (λ o. cons_option o [] ≡ option_to_list o) [ None ↦ refl | Some y ↦ refl ]

-- of what there is of numbered members
pub numbered-found : {X Y : Type 0} (f : ℕ × X → Option Y) (xs : List X) (k : ℕ) (x : X) → k < length xs → x ≡ get_or xs k x → filter_map f (take (k + 1) (enumerate_from 0 xs)) ≡ filter_map f (take k (enumerate_from 0 xs)) ++ option_to_list (f (k, x))
numbered-found f xs k x inside is =
    let numbered = enumerate_from 0 xs in
    let within : k < length numbered = omega (arith, length-enumerate_from 0 xs) in
    let place : 0 + k ≡ k = omega arith in
    let at : get_or numbered k (k, x) ≡ (k, x) = get_or-enumerate_from 0 xs k (k, x) inside ∙ (λ i. (place i, sym is i)) in
    ap (filter_map f) (take_more numbered k (k, x) within)
    ∙ filter_map-append f (take k numbered) (get_or numbered k (k, x) ∷ [])
    ∙ ap (λ y. filter_map f (take k numbered) ++ filter_map f (y ∷ [])) at
    ∙ ap (λ ys. filter_map f (take k numbered) ++ ys) (lone f (k, x))

-- of pairs of members
zip-more : {X Y : Type 0} (xs : List X) (ys : List Y) (x : X) (y : Y) → length ys ≡ length xs → zip (xs ++ x ∷ []) (ys ++ y ∷ []) ≡ zip xs ys ++ (x, y) ∷ []
zip-more [] [] x y same = refl
zip-more [] (b ∷ ys) x y same = absurd (omega arith)
zip-more (a ∷ xs) [] x y same = absurd (omega arith)
zip-more (a ∷ xs) (b ∷ ys) x y same = ap (λ zs. (a, b) ∷ zs) (zip-more xs ys x y (omega arith))

-- what holds of each pair of members so far and of the next pair, holds of each pair
pub zip-next : {X Y : Type 0} (P : X × Y → Type 0) (xs : List X) (ys zs : List Y) (i : ℕ) (x : X) (y : Y) → i < length xs → x ≡ get_or xs i x → length ys ≡ i → zs ≡ ys ++ y ∷ [] → All P (zip (take i xs) ys) → P (x, y) → All P (zip (take (i + 1) xs) zs)
zip-next P xs ys zs i x y inside is count grown before this =
    let same : length ys ≡ length (take i xs) = omega (arith, length-take i xs) in
    let next : zip (take (i + 1) xs) zs ≡ zip (take i xs) ys ++ (x, y) ∷ [] =
    (λ j. zip (take_more xs i x inside j) (grown j))
    ∙ ap (λ z. zip (take i xs ++ z ∷ []) (ys ++ y ∷ [])) (sym is)
    ∙ zip-more (take i xs) ys x y same in
    subst (All P) (sym next) (All-push P (zip (take i xs) ys) (x, y) before this)

-- ---- components that a sequence can be read over

-- a substep is a step
step-of : (substep : Option ℤ) → ForSome substep IsSubstep → IfSome substep IsStep
step-of None is = tt
step-of (Some seconds) is = ((is seconds refl).least, (is seconds refl).most)

-- the names of components
pub names-asked : (pets : ℕ) (comps : List Comp) (room : ℤ) → AreRead pets comps → pos 1 ≤ℤ room → room <ℤ pos (2 ^ 40) → IsAsked (names_of comps) None None room
names-asked pets comps room are least most =
    let count = length-map comps name_of in
    let limits : Limits = record { pets = pets; alarms = 0; inputs = [] } in
    record {
      names_are = record {
        few = record {
          names_few = omega (arith, are.few);
          phases_few = All-map HasFewPhases name_of comps (All-weaker (IsComponent limits) (λ comp. HasFewPhases (name_of comp)) (λ comp is. rw length-map is.few_phases) comps are.each);
        };
        phases_some = All-map (λ name. 1 ≤ length name.phases) name_of comps (All-weaker (IsComponent limits) (λ comp. 1 ≤ length (name_of comp).phases) (λ comp is. rw length-map is.some_phases) comps are.each);
        substeps = All-map (λ name. IfSome name.substep IsStep) name_of comps (All-weaker (IsComponent limits) (λ comp. IfSome comp.substep IsStep) (λ comp is. step-of comp.substep is.substep) comps are.each);
      };
      step = tt;
      room_least = least;
      room_most = omega (arith, ints);
      span_least = tt;
      span_below = tt;
    }

-- ---- parts

-- parts that were made step by step
pub parts-accepted : (comps : List Comp) (seq : Sequence) (pairs : List Pair) (init : List ℕ) (weights : List (Option Table)) (pets : ℕ) (dict : Dictionary)
    → AreRead pets comps
    → sum_by (λ comp. length comp.fields * cells_in comp.decomp.grid) comps ≤ 2 ^ 24
    → IsOver (names_of comps) seq
    → (pos 0 +ℤ seq.span) <ℤ pos (end_of_time Gregorian)
    → pos 0 <ℤ pos (end_of_time Gregorian)
    → ArePairs dict (cell_counts comps) (map way_of seq.links) (ports_of comps) pairs
    → IsInitialOrder (length comps) (needs_in comps pairs) init
    → length weights ≡ length seq.links
    → All (IsWeighed comps) (zip seq.links weights)
    → AreParts (record { comps = comps; seq = seq; pairs = pairs; init = init; weights = weights; cal = Gregorian; start = pos 0; alarms = []; pets = pets })
parts-accepted comps seq pairs init weights pets dict are values over end begun paired order count weighed = record {
  inputs = [];
  comps = record { some = are.some; few = are.few; some_pets = are.some_pets; few_pets = are.few_pets; each = are.each; few_values = values };
  timing = record { start = record { begun = omega (arith, ints); not_over = begun }; end = end; few_alarms = omega arith; alarms = All-nil IsRegular };
  over = over;
  dict = dict;
  pairs = paired;
  init = order;
  weight_count = count;
  weights = All-weaker (IsWeighed comps) (AreWeights comps pairs) (λ given w. record { redist = w.redist; needed = λ none some. w.needed none; between = w.between }) (zip seq.links weights) weighed;
}
