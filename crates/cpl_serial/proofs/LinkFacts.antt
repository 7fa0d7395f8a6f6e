-- What a connector makes of the world, pair by pair, and what it leaves.
use Rattle.std.proofs.Common.{◌≡◌, ◌≢◌, ℕ, ◌+◌, ◌<◌, Bool, true, false, cond, List, [], ◌∷◌, ◌++◌, length, get_or, refl, sym, ap, ◌∙◌}
use Rattle.std.specs.Prelude.{fold, filter, take}
use Rattle.std.specs.List.{All}
use Rattle.std.proofs.Math.Seq.{take-length}
use Rattle.std.proofs.lemmas.List.{append-nil, take_more}
use Rattle.std.proofs.lemmas.List.Elements.{All-filter, All-take, filter_more}
use Rattle.std.proofs.lemmas.List.Sums.{fold-append}
use Rattle.cpl_comp.proofs.ChangeFacts.{changed-other, fold-keeps, fold-keeps_all, length-changed}
use Rattle.cpl_comp.specs.Worlds.{FieldWorld, changed, field_at}
use Rattle.cpl_comp.specs.declared.component.Comp.{Comp}
use Rattle.cpl_match.specs.declared.port.Pair.{Pair}
use Rattle.cpl_script.specs.Couplings.{layout_at}
use Rattle.cpl_script.specs.Operations.{is_init_pair}
use Rattle.cpl_script.specs.Sound.{IsConnector}
use Rattle.cpl_script.specs.Transfers.{World, carried, carried_pairs, comp_at, imported, no_comp, world_after_link}
use Rattle.cpl_script.specs.declared.link.Link.{Link}
use Rattle.cpl_serial.specs.Passed.{is_passed, pairs_passed}

module _ (comps : List Comp) (link : Link) (before : World) where
  -- ---- what stays

  -- a component into which no pair leads stays
  pub source-stays : (src : ℕ) (world : World) (pairs : List Pair) → All (λ (pair : Pair). pair.dst ≢ src) pairs
      → comp_at (fold (carried comps link before) world pairs) src ≡ comp_at world src
  source-stays src world pairs others =
      fold-keeps_all (λ (w : World). comp_at w src ≡ comp_at world src) (λ (pair : Pair). pair.dst ≢ src) (carried comps link before)
      (λ w pair other same. changed-other _ pair.dst src w no_comp (λ here. other (sym here)) ∙ same) world pairs others refl

  -- there are as many components as before
  pub length-fold_carried : (world : World) (pairs : List Pair) → length (fold (carried comps link before) world pairs) ≡ length world
  length-fold_carried world pairs =
      fold-keeps (λ (w : World). length w ≡ length world) (carried comps link before)
      (λ w pair same. length-changed _ pair.dst w ∙ same) world pairs refl

  -- ---- one pair

  -- a pair carried is the change of one field of one component: it takes the image of the export and its stamp
  pub carried-as-import : (world : World) (pair : Pair) (export : FieldWorld) → export ≡ field_at (comp_at before pair.src).fields pair.src_field
      → carried comps link before world pair
      ≡ changed (λ comp. record comp { fields = changed (imported link.weights (layout_at comps pair.dst) export) pair.dst_field comp.fields })
      pair.dst world
  carried-as-import world pair export is =
      let put : FieldWorld → World = λ export.
      changed (λ comp. record comp { fields = changed (imported link.weights (layout_at comps pair.dst) export) pair.dst_field comp.fields })
      pair.dst world in
      ap put (sym is)

-- ---- pair by pair

module _ (comps : List Comp) (link : Link) where
  -- before the first pair none is carried
  pub passed-none : (at_init : Bool) → pairs_passed comps link at_init 0 ≡ []
  passed-none true = refl
  passed-none false = refl

  -- behind the last all are that are to be
  pub passed-all : (at_init : Bool) → pairs_passed comps link at_init (length link.pairs) ≡ carried_pairs comps link at_init
  passed-all true = ap (filter (is_init_pair comps)) (take-length link.pairs)
  passed-all false = take-length link.pairs

  -- one pair more
  pub passed-more : (at_init : Bool) (j : ℕ) (d : Pair) → j < length link.pairs
      → pairs_passed comps link at_init (j + 1)
      ≡ pairs_passed comps link at_init j ++ cond (is_passed comps at_init (get_or link.pairs j d)) (get_or link.pairs j d ∷ []) []
  passed-more true j d below = filter_more (is_init_pair comps) link.pairs j d below
  passed-more false j d below = take_more link.pairs j d below

  -- what holds of each pair holds of those that are carried
  pub passed-each : (P : Pair → Type 0) (at_init : Bool) (j : ℕ) → All P link.pairs → All P (pairs_passed comps link at_init j)
  passed-each P true j each = All-filter (is_init_pair comps) P (take j link.pairs) (All-take P j link.pairs each)
  passed-each P false j each = All-take P j link.pairs each

  -- a pair that is carried changes the world once more
  pub carried-more : (before world : World) (at_init : Bool) (j : ℕ) (d : Pair) → j < length link.pairs
      → is_passed comps at_init (get_or link.pairs j d) ≡ true
      → fold (carried comps link before) world (pairs_passed comps link at_init (j + 1))
      ≡ carried comps link before (fold (carried comps link before) world (pairs_passed comps link at_init j)) (get_or link.pairs j d)
  carried-more before world at_init j d below passes =
      ap (fold (carried comps link before) world)
      (passed-more at_init j d below ∙ ap (λ b. pairs_passed comps link at_init j ++ cond b (get_or link.pairs j d ∷ []) []) passes)
      ∙ fold-append (carried comps link before) world (pairs_passed comps link at_init j) (get_or link.pairs j d ∷ [])

  -- one that isn't leaves it
  pub carried-not : (before world : World) (at_init : Bool) (j : ℕ) (d : Pair) → j < length link.pairs
      → is_passed comps at_init (get_or link.pairs j d) ≡ false
      → fold (carried comps link before) world (pairs_passed comps link at_init (j + 1))
      ≡ fold (carried comps link before) world (pairs_passed comps link at_init j)
  carried-not before world at_init j d below fails =
      ap (fold (carried comps link before) world)
      (passed-more at_init j d below ∙ ap (λ b. pairs_passed comps link at_init j ++ cond b (get_or link.pairs j d ∷ []) []) fails
      ∙ append-nil (pairs_passed comps link at_init j))

  -- before the first pair the world is as it was
  pub carried-first : (before world : World) (at_init : Bool) → fold (carried comps link before) world (pairs_passed comps link at_init 0) ≡ world
  carried-first before world at_init = ap (fold (carried comps link before) world) (passed-none at_init)

  -- behind the last it is the world after the operation
  pub carried-last : (world : World) (at_init : Bool)
      → fold (carried comps link world) world (pairs_passed comps link at_init (length link.pairs)) ≡ world_after_link comps link at_init world
  carried-last world at_init = ap (fold (carried comps link world) world) (passed-all at_init)

  -- no pair leads into the source
  pub connector-elsewhere : IsConnector comps link → All (λ (pair : Pair). pair.dst ≢ link.line.src) link.pairs
  connector-elsewhere is = λ i d inside here. is.differ (sym here ∙ (is.pairs i d inside).dst)

  -- so the source stays all through
  pub source-passed : IsConnector comps link → (before world : World) (at_init : Bool) (j : ℕ)
      → comp_at (fold (carried comps link before) world (pairs_passed comps link at_init j)) link.line.src ≡ comp_at world link.line.src
  source-passed is before world at_init j =
      source-stays comps link before link.line.src world (pairs_passed comps link at_init j)
      (passed-each (λ (pair : Pair). pair.dst ≢ link.line.src) at_init j (connector-elsewhere is))
