-- How the components of a system are made: what feeds their fields, and one component after another.
use Rattle.std.proofs.Common.{◌≡◌, ℕ, ◌+◌, ◌<◌, Bool, true, false, ◌||◌, List, [], ◌∷◌, ◌++◌, get_or, length, replicate, take, Option, Some, None, refl, sym, ap, subst, ◌∙◌, inl, inr, arith}
use Rattle.std.specs.Prelude.{IfSome, IsTrue}
use Rattle.std.specs.List.{All, list_any, slice_get}
use Rattle.std.specs.Option.{option_map_or}
use Rattle.std.proofs.Math.Seq.{get_or-append_seam}
use Rattle.std.proofs.lemmas.Bool.{cases_lt, false≢true}
use Rattle.std.proofs.lemmas.List.{get_or-map, get_or-replicate, get_or_append_left, get_or_past, length-append, length-replicate}
use Rattle.std.proofs.lemmas.List.Folds.{list_any_more}
use Rattle.std.proofs.lemmas.Option.{get_or_from_slice_get, slice_get-get_or, slice_get_read, slice_get_within}
use Rattle.cpl_comp.specs.Components.{is_role}
use Rattle.cpl_comp.specs.Turns.{has_role}
use Rattle.cpl_comp.specs.Worlds.{CompWorld, first_comp}
use Rattle.cpl_comp.specs.declared.component.Comp.{Comp}
use Rattle.cpl_comp.specs.declared.component.Field.{Field}
use Rattle.cpl_comp.specs.declared.component.Role.{Role}
use Rattle.cpl_comp.specs.declared.component.Role.TheVariants.{Import}
use Rattle.cpl_match.specs.declared.port.Pair.{Pair}
use Rattle.cpl_phase.specs.Locals.{IsAged, StandsForComp}
use Rattle.cpl_phase.specs.declared.local.LocalComp.{LocalComp}
use Rattle.cpl_script.proofs.WorldFacts.{held-first_world}
use Rattle.cpl_script.specs.Couplings.{Coupling, is_pair_into}
use Rattle.cpl_script.specs.Held.{IsHeldWorld}
use Rattle.cpl_script.specs.SerialRun.{first_world}
use Rattle.cpl_script.specs.Sound.{IsConnector, IsCoupling}
use Rattle.cpl_script.specs.Transfers.{comp_at, no_comp}
use Rattle.cpl_script.specs.declared.link.Link.{Link}
use Rattle.cpl_serial.proofs.EngineFacts.{member-there}
use Rattle.cpl_serial.specs.Engines.{AreWhole, StandForWorld}
use Rattle.cpl_serial.specs.Opened.{AreOpenedTo, IsOpened, IsPairWithin, is_fed_by}

-- ---- what feeds fields

-- a place that has a role is one of the fields
role-within : (role : Role) (fields : List Field) (k : ℕ) (o : Option Field) → slice_get fields k ≡ o
    → option_map_or (λ (field : Field). is_role role field.role) o false ≡ true → k < length fields
role-within role fields k None none is = absurd (false≢true is)
role-within role fields k (Some field) there is = slice_get_within fields k field there

-- the import of a pair is a field of its component
pub pairs-within : (comps : List Comp) (link : Link) (component fields : ℕ) (comp : Comp)
    → slice_get comps component ≡ Some comp → fields ≡ length comp.fields → IsConnector comps link → All (IsPairWithin component fields) link.pairs
pairs-within comps link component fields comp there count is = λ i d inside here.
    let pair : Pair = get_or link.pairs i d in
    let found : slice_get comps pair.dst ≡ Some comp = ap (slice_get comps) here ∙ there in
    let P : Option Comp → Type 0 = λ o. IfSome o (λ (q : Comp). IsTrue (has_role Import q.fields pair.dst_field)) in
    let import : has_role Import comp.fields pair.dst_field ≡ true = subst P found (is.pairs i d inside).import in
    let within : pair.dst_field < length comp.fields = role-within Import comp.fields pair.dst_field (slice_get comp.fields pair.dst_field) refl import in
    subst (λ n. pair.dst_field < n) (sym count) within

-- before the first connector no field is marked
pub unmarked-count : (flags : List Bool) (n : ℕ) → flags ≡ replicate n false → length flags ≡ n
unmarked-count flags n is = ap (λ (xs : List Bool). length xs) is ∙ length-replicate n false

pub unmarked : (flags : List Bool) (n k : ℕ) → flags ≡ replicate n false → get_or flags k false ≡ false
unmarked flags n k is = elim (cases_lt k n) [
  | inl below ↦ ap (λ (xs : List Bool). get_or xs k false) is ∙ get_or-replicate n k false false below
  | inr past ↦ get_or_past flags k false (omega (arith, past, unmarked-count flags n is))
]

-- and one connector more marks what it feeds
pub fed-more : (links : List Link) (n : ℕ) (link : Link) (component k : ℕ) (before after : Bool) (pairs : List Pair)
    → n < length links → link ≡ get_or links n link → pairs ≡ link.pairs → after ≡ (before || list_any (is_pair_into component k) pairs) → before ≡ list_any (is_fed_by component k) (take n links)
    → after ≡ list_any (is_fed_by component k) (take (n + 1) links)
fed-more links n link component k before after pairs below link_is pairs_are is so_far =
    let passed = list_any (is_fed_by component k) (take n links) in
    is ∙ ap (λ b. b || list_any (is_pair_into component k) pairs) so_far
    ∙ ap (λ (xs : List Pair). passed || list_any (is_pair_into component k) xs) pairs_are
    ∙ ap (λ (q : Link). passed || is_fed_by component k q) link_is
    ∙ sym (list_any_more (is_fed_by component k) links n link below)

-- ---- one component after another

module _ (coupling : Coupling) where
  -- one component more is made
  pub opened-more : (k : ℕ) (locals : List LocalComp) (new : LocalComp)
      → ((comp : Comp) → slice_get coupling.comps k ≡ Some comp → IsOpened coupling k comp new)
      → AreOpenedTo k coupling locals → AreOpenedTo (k + 1) coupling (locals ++ new ∷ [])
  opened-more k locals new is before =
      let longer = length-append locals (new ∷ []) in
      record {
        size = omega (arith, longer, before.size);
        each = λ c comp local there stands.
            let inside = slice_get_within (locals ++ new ∷ []) c local stands in
            let here : get_or (locals ++ new ∷ []) c local ≡ local = get_or_from_slice_get (locals ++ new ∷ []) c local local stands in
            elim (cases_lt c k) [
              | inl less ↦
                  let among : c < length locals = omega (arith, less, before.size) in
                  before.each c comp local there (slice_get_read locals (length locals) c local refl among
                  (sym here ∙ get_or_append_left locals (new ∷ []) local c among))
              | inr more ↦
                  let last : c ≡ length locals = omega (arith, more, inside, longer, before.size) in
                  let same : k ≡ c = omega (arith, last, before.size) in
                  let made_is : new ≡ local =
                  sym (get_or-append_seam locals new [] local) ∙ ap (λ n. get_or (locals ++ new ∷ []) n local) (sym last) ∙ here in
                  let P : ℕ → Type 0 = λ n. slice_get coupling.comps n ≡ Some comp → IsOpened coupling n comp new in
                  subst (IsOpened coupling c comp) made_is (subst P same (is comp) there)
            ];
      }

  -- a component of the world at the start
  first-at : (c : ℕ) (comp : Comp) → slice_get coupling.comps c ≡ Some comp → comp_at (first_world coupling) c ≡ first_comp comp
  first-at c comp there =
      get_or-map first_comp coupling.comps c comp no_comp (slice_get_within coupling.comps c comp there)
      ∙ ap first_comp (get_or_from_slice_get coupling.comps c comp comp there)

  -- that world has a value for each cell
  first-held : IsCoupling coupling → IsHeldWorld coupling.comps (first_world coupling)
  first-held is = held-first_world coupling [] is.inputs is.comps (λ entry list below count values. omega arith)

  module _ (k : ℕ) (locals : List LocalComp) (all : k ≡ length coupling.comps) (are : AreOpenedTo k coupling locals) where
    -- all that are made are on their grids
    pub opened-whole : AreWhole coupling locals
    opened-whole = record { size = are.size ∙ all; each = λ c comp local there stands. (are.each c comp local there stands).whole }

    -- they stand for the world at the start
    pub opened-start : IsCoupling coupling → StandForWorld coupling (first_world coupling) locals
    opened-start is = record {
      held = first-held is;
      each = λ c comp local there stands.
          subst (λ (w : CompWorld). StandsForComp comp w local) (sym (first-at c comp there)) (are.each c comp local there stands).start;
    }

    -- and nothing was carried out
    pub opened-young : All (IsAged 0) locals
    opened-young = λ c d inside.
        let found = member-there coupling.comps c (omega (arith, inside, are.size, all)) in
        (are.each c found.member (get_or locals c d) found.stands (slice_get-get_or locals c d inside)).young
