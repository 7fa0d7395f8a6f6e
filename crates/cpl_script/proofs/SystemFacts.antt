-- Accepted parts that aren't too large are a system.
use Rattle.std.proofs.Common.{◌≡◌, ℕ, ◌+◌, ◌≤◌, ◌^◌, ◌⊎◌, inl, inr, Bool, true, false, Result, Ok, Err, List, length, map, ap, ◌∙◌, sym, refl, subst, arith}
use Rattle.std.specs.Prelude.{ℤ, nat_le, sum_by}
use Rattle.std.specs.List.{All, zip}
use Rattle.std.proofs.lemmas.List.Folds.{fold-map}
use Rattle.cpl_base.specs.ResultChain.{◌>>=◌, ok_if}
use Rattle.cpl_sequence.specs.declared.op.Op.{Op}
use Rattle.cpl_script.specs.declared.draft.Draft.{Draft}
use Rattle.cpl_script.specs.declared.fault.SystemFault.{SystemFault}
use Rattle.cpl_script.specs.declared.fault.SystemFault.TheVariants.{Memory, TooManyOps, TooManyRoutes}
use Rattle.cpl_script.specs.declared.halos.HaloRoutes.{HaloRoutes}
use Rattle.cpl_script.specs.declared.link.Link.{Link}
use Rattle.std.proofs.lemmas.Bool.{leb-true}
use Rattle.std.proofs.lemmas.List.{length-map}
use Rattle.std.proofs.lemmas.List.Elements.{All-map, All-weaker}
use Rattle.cpl_comp.specs.Components.{IsComponent}
use Rattle.cpl_comp.specs.declared.component.Comp.{Comp}
use Rattle.cpl_match.specs.declared.port.Pair.{Pair}
use Rattle.cpl_sequence.specs.Sound.{IsSound}
use Rattle.cpl_sequence.specs.declared.link_line.LinkLine.{LinkLine}
use Rattle.cpl_script.specs.Halos.{comp_numbers}
use Rattle.cpl_script.specs.Couplings.{Coupling}
use Rattle.cpl_script.specs.Drafts.{IsDraft, draft_numbers, draft_of, link_from, links_from}
use Rattle.cpl_script.specs.Kept.{HasNearHalos, IsKept, accepted_halos, accepted_ops, halo_routes_of}
use Rattle.cpl_script.specs.Operations.{init_ops, needs_in}
use Rattle.cpl_script.specs.Sound.{AreParts, IsConnector, IsCoupling}
use Rattle.cpl_script.specs.Systems.{capped, coupling_of, link_numbers, link_of, op_total, route_total, system_of}
use Rattle.cpl_script.specs.declared.parts.SystemParts.{SystemParts}
use Rattle.cpl_script.proofs.ConnectorFacts.{drafts-sound}
use Rattle.cpl_script.proofs.HaloFacts.{halos-near}
use Rattle.cpl_script.proofs.InitFacts.{all-ops, order-listed}
use Rattle.cpl_script.proofs.ListFacts.{length-zip, map-map, zip-firsts}

-- the connectors of drafts are those of the lines
pub links-of_drafts : (parts : SystemParts) → links_from parts.comps (map (draft_of parts.pairs) (zip parts.seq.links parts.weights)) ≡ map (link_of parts.comps parts.pairs) (zip parts.seq.links parts.weights)
links-of_drafts parts = map-map (link_from parts.comps) (draft_of parts.pairs) (zip parts.seq.links parts.weights)

-- each component reads near cells alone
pub parts-near : (parts : SystemParts) → AreParts parts → All HasNearHalos parts.comps
parts-near parts are = All-weaker (IsComponent _) HasNearHalos (halos-near _) parts.comps are.comps.each

-- the system of parts
pub parts-coupling : (parts : SystemParts) → AreParts parts → IsSound parts.seq → op_total (coupling_of parts) ≤ 2 ^ 24 → route_total (coupling_of parts) ≤ 2 ^ 25 → IsCoupling (coupling_of parts)
unfolding coupling_of
parts-coupling parts are sound few_ops few_routes =
    let given = zip parts.seq.links parts.weights in
    let links = map (link_of parts.comps parts.pairs) given in
    let connectors : All (IsConnector parts.comps) links =
    subst (All (IsConnector parts.comps)) (links-of_drafts parts) (All-map (IsConnector parts.comps) (link_from parts.comps) (map (draft_of parts.pairs) given) (drafts-sound parts are)) in
    let lines : map (λ link. link.line) links ≡ parts.seq.links =
    map-map (λ link. link.line) (link_of parts.comps parts.pairs) given ∙ zip-firsts parts.seq.links parts.weights are.weight_count in
    let count : length links ≡ length parts.seq.links = length-map given (link_of parts.comps parts.pairs) ∙ length-zip parts.seq.links parts.weights are.weight_count in
    record {
      inputs = are.inputs;
      comps = are.comps;
      timing = are.timing;
      sound = sound;
      over = are.over;
      lines = lines;
      links = connectors;
      init_size = are.init.size;
      init_all = are.init.all;
      ops = all-ops (coupling_of parts) (order-listed (length parts.comps) (needs_in parts.comps parts.pairs) parts.init are.init) count are.over;
      few_ops = few_ops;
      few_routes = few_routes;
    }

-- ---- the answer

-- a fault of a first test is that of what follows it
pub first-fault : {A B : Type 0} (b : Bool) (f fault : SystemFault) (x : A) (more : Result B SystemFault) → (fault ≡ Memory) ⊎ ((ok_if b f >>= (λ _. Ok x)) ≡ Err fault) → (fault ≡ Memory) ⊎ ((ok_if b f >>= (λ _. more)) ≡ Err fault)
first-fault true f fault x more (inl memory) = inl memory
first-fault true f fault x more (inr refused) = absurd (cc)
first-fault false f fault x more (inl memory) = inl memory
first-fault false f fault x more (inr refused) = inr (let same : f ≡ fault = cc in ap (λ e. Err e) same)

-- a test that passed
pub passed : {A : Type 0} (b : Bool) (f : SystemFault) (x y : A) → (ok_if b f >>= (λ _. Ok x)) ≡ Ok y → (b ≡ true) × (x ≡ y)
passed true f x y is = (refl, (let same : x ≡ y = cc in same))
passed false f x y is = absurd (cc)

-- the answer behind the first test
pub behind-first : {B : Type 0} (b : Bool) (f : SystemFault) (more : Result B SystemFault) → b ≡ true → (ok_if b f >>= (λ _. more)) ≡ more
behind-first b f more is = ap (λ (t : Bool). ok_if t f >>= (λ _. more)) is

-- how many numbers the connectors of drafts move
pub numbers-of_drafts : (comps : List Comp) (drafts : List Draft) → sum_by (draft_numbers comps) drafts ≡ sum_by link_numbers (links_from comps drafts)
numbers-of_drafts comps drafts = sym (fold-map (λ a x. a + link_numbers x) (link_from comps) 0 drafts)

-- ---- from parts to a system

-- the drafts of parts
abbrev pub drafts_in : SystemParts → List Draft
drafts_in parts = map (draft_of parts.pairs) (zip parts.seq.links parts.weights)

-- the connectors of parts
abbrev pub links_in : SystemParts → List Link
links_in parts = map (link_of parts.comps parts.pairs) (zip parts.seq.links parts.weights)

-- drafts that were made of the parts' lines and pairs
pub drafts-are : (parts : SystemParts) (lines : List LinkLine) (pairs : List Pair) (drafts : List Draft) → drafts ≡ map (draft_of pairs) (zip lines parts.weights) → lines ≡ parts.seq.links → pairs ≡ parts.pairs → drafts ≡ drafts_in parts
drafts-are parts lines pairs drafts made lines_are pairs_are = made ∙ (λ i. map (draft_of (pairs_are i)) (zip (lines_are i) parts.weights))

-- drafts are few
pub drafts-few : (parts : SystemParts) (drafts : List Draft) → AreParts parts → drafts ≡ drafts_in parts → length drafts ≤ 2 ^ 16
drafts-few parts drafts are same =
    let count = ap (λ (ds : List Draft). length ds) same ∙ length-map (zip parts.seq.links parts.weights) (draft_of parts.pairs) ∙ length-zip parts.seq.links parts.weights are.weight_count in
    omega (arith, are.over.few)

-- drafts are sound
pub drafts-fit : (parts : SystemParts) (comps : List Comp) (drafts : List Draft) → AreParts parts → comps ≡ parts.comps → drafts ≡ drafts_in parts → All (IsDraft comps) drafts
drafts-fit parts comps drafts are comps_are same =
    subst (λ (cs : List Comp). All (IsDraft cs) drafts) (sym comps_are) (subst (λ (ds : List Draft). All (IsDraft parts.comps) ds) (sym same) (drafts-sound parts are))

-- the operations of the initialisation, of the parts' connectors
pub ops-are : (parts : SystemParts) (comps : List Comp) (drafts : List Draft) (order : List ℕ) → comps ≡ parts.comps → drafts ≡ drafts_in parts → order ≡ parts.init → accepted_ops comps (links_from comps drafts) order parts.seq ≡ accepted_ops parts.comps (links_in parts) parts.init parts.seq
ops-are parts comps drafts order comps_are drafts_are order_is =
    (λ i. accepted_ops (comps_are i) (links_from (comps_are i) (drafts_are i)) (order_is i) parts.seq)
    ∙ ap (λ (links : List Link). accepted_ops parts.comps links parts.init parts.seq) (links-of_drafts parts)

-- the routes of halos, by the numbers of the parts' connectors
pub halos-are : (parts : SystemParts) (comps : List Comp) (drafts : List Draft) → comps ≡ parts.comps → drafts ≡ drafts_in parts → accepted_halos comps (sum_by (draft_numbers comps) drafts + sum_by comp_numbers comps) ≡ accepted_halos parts.comps (route_total (coupling_of parts))
unfolding coupling_of
halos-are parts comps drafts comps_are drafts_are =
    (λ i. accepted_halos (comps_are i) (sum_by (draft_numbers (comps_are i)) (drafts_are i) + sum_by comp_numbers (comps_are i)))
    ∙ ap (λ (n : ℕ). accepted_halos parts.comps (n + sum_by comp_numbers parts.comps)) (numbers-of_drafts parts.comps (drafts_in parts) ∙ ap (λ (links : List Link). sum_by link_numbers links) (links-of_drafts parts))

-- the first test, and the second
abbrev pub HasFewOps : SystemParts → Type 0
HasFewOps parts = nat_le (op_total (coupling_of parts)) (2 ^ 24) ≡ true

abbrev pub HasFewNumbers : SystemParts → Type 0
HasFewNumbers parts = nat_le (route_total (coupling_of parts)) (2 ^ 25) ≡ true

-- too many operations
pub ops-refused : (parts : SystemParts) (fault : SystemFault) → (fault ≡ Memory) ⊎ (accepted_ops parts.comps (links_in parts) parts.init parts.seq ≡ Err fault) → (fault ≡ Memory) ⊎ (system_of parts ≡ Err fault)
unfolding coupling_of
ops-refused parts fault is =
    let ops = op_total (coupling_of parts) in
    let numbers = route_total (coupling_of parts) in
    first-fault (nat_le ops (2 ^ 24)) (TooManyOps (capped ops)) fault (init_ops parts.comps (links_in parts) parts.init) (ok_if (nat_le numbers (2 ^ 25)) (TooManyRoutes (capped numbers)) >>= (λ _. Ok (coupling_of parts))) is

-- not too many
pub ops-passed : (parts : SystemParts) (ops : List Op) → accepted_ops parts.comps (links_in parts) parts.init parts.seq ≡ Ok ops → HasFewOps parts × (init_ops parts.comps (links_in parts) parts.init ≡ ops)
unfolding coupling_of
ops-passed parts ops is =
    let count = op_total (coupling_of parts) in
    passed (nat_le count (2 ^ 24)) (TooManyOps (capped count)) (init_ops parts.comps (links_in parts) parts.init) ops is

-- too many numbers
pub halos-refused : (parts : SystemParts) (fault : SystemFault) → HasFewOps parts → (fault ≡ Memory) ⊎ (accepted_halos parts.comps (route_total (coupling_of parts)) ≡ Err fault) → (fault ≡ Memory) ⊎ (system_of parts ≡ Err fault)
halos-refused parts fault few is =
    let ops = op_total (coupling_of parts) in
    let numbers = route_total (coupling_of parts) in
    let rest : Result Coupling SystemFault = ok_if (nat_le numbers (2 ^ 25)) (TooManyRoutes (capped numbers)) >>= (λ _. Ok (coupling_of parts)) in
    subst (λ (r : Result Coupling SystemFault). (fault ≡ Memory) ⊎ (r ≡ Err fault)) (sym (behind-first (nat_le ops (2 ^ 24)) (TooManyOps (capped ops)) rest few))
    (first-fault (nat_le numbers (2 ^ 25)) (TooManyRoutes (capped numbers)) fault (map halo_routes_of parts.comps) (Ok (coupling_of parts)) is)

-- not too many
pub halos-passed : (parts : SystemParts) (halos : List HaloRoutes) → accepted_halos parts.comps (route_total (coupling_of parts)) ≡ Ok halos → HasFewNumbers parts × (map halo_routes_of parts.comps ≡ halos)
halos-passed parts halos is =
    let numbers = route_total (coupling_of parts) in
    passed (nat_le numbers (2 ^ 25)) (TooManyRoutes (capped numbers)) (map halo_routes_of parts.comps) halos is

-- the system of parts that aren't too large
pub system-accepted : (parts : SystemParts) → HasFewOps parts → HasFewNumbers parts → system_of parts ≡ Ok (coupling_of parts)
system-accepted parts few_ops few_numbers =
    let ops = op_total (coupling_of parts) in
    let numbers = route_total (coupling_of parts) in
    let rest : Result Coupling SystemFault = ok_if (nat_le numbers (2 ^ 25)) (TooManyRoutes (capped numbers)) >>= (λ _. Ok (coupling_of parts)) in
    behind-first (nat_le ops (2 ^ 24)) (TooManyOps (capped ops)) rest few_ops
    ∙ behind-first (nat_le numbers (2 ^ 25)) (TooManyRoutes (capped numbers)) (Ok (coupling_of parts)) few_numbers

-- what is kept of it
pub system-kept : (parts : SystemParts) (halos : List HaloRoutes) (ops : List Op) → AreParts parts → IsSound parts.seq → HasFewOps parts → HasFewNumbers parts → map halo_routes_of parts.comps ≡ halos → init_ops parts.comps (links_in parts) parts.init ≡ ops → IsKept (coupling_of parts) halos ops
unfolding coupling_of
system-kept parts halos ops are sound few_ops few_numbers halos_are ops_are = record {
  coupling_is = parts-coupling parts are sound (leb-true (op_total (coupling_of parts)) (2 ^ 24) few_ops) (leb-true (route_total (coupling_of parts)) (2 ^ 25) few_numbers);
  halos_are = sym halos_are;
  ops_are = sym ops_are;
}

-- the system of parts, with these connectors and this start
pub system-links : (parts : SystemParts) (links : List Link) (start : ℤ) → links ≡ links_in parts → start ≡ parts.start → coupling_of parts ≡ record { comps = parts.comps; links = links; init = parts.init; sequence = parts.seq; timing = record { cal = parts.cal; start = start; alarms = parts.alarms }; pets = parts.pets }
unfolding coupling_of
system-links parts links start same at = λ i. record { comps = parts.comps; links = sym same i; init = parts.init; sequence = parts.seq; timing = record { cal = parts.cal; start = sym at i; alarms = parts.alarms }; pets = parts.pets }
