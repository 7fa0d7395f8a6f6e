use Rattle.std.proofs.Common.{◌≡◌, ◌+◌, ◌++◌, ℕ, List, ℤ, arith, length, set, subst, sym}
use Rattle.cpl_phase.specs.Refreshed.{AreOnBlock}
use Rattle.cpl_phase.proofs.PhaseFacts.{on-block-append, on-block-drop}
use Rattle.cpl_phase.proofs.RefreshedFacts.{on-block-set}
use Rattle.cpl_phase.proofs.updating.carry_out.Goals as goal

pub returns-clause-others : goal.returns-clause-others
returns-clause-others g c =
    let frame = c.args.scene.now.frame in
    let others = c.args.others.now in
    let ka = length c.items.result.now in
    let ks = length c.items-2.result.now in
    let km = length c.items-3.result.now in
    let a = c.split_at_mut-averaged.ensures in
    let s = c.split_at_mut-assigned.ensures in
    let m = c.split_at_mut-merged.ensures in
    let rest1 = c.split_at_mut-averaged.result.1.now in
    let rest2 = c.split_at_mut-assigned.result.1.now in
    let rest3 = c.split_at_mut-merged.result.1.now in
    let On : List (List ℤ) → Type 0 = λ fields. AreOnBlock frame (length fields) fields in
    let on1 : On rest1 = subst On (sym a.back) (on-block-drop frame (length others) ka others c.requires.others) in
    let on2 : On rest2 = subst On (sym s.back) (on-block-drop frame (length rest1) ks rest1 on1) in
    let on3 : On rest3 = subst On (sym m.back) (on-block-drop frame (length rest2) km rest2 on2) in
    let last = set rest3 0 c.carry_over.new.further in
    let on_last : AreOnBlock frame (length rest3) last =
    on-block-set frame (length rest3) rest3 0 c.carry_over.new.further on3 c.carry_over.ensures.further c.carry_over.ensures.further_values in
    let n = length c.split_at_mut-merged.result.0.now + length rest3 in
    let k = length c.split_at_mut-assigned.result.0.now + n in
    let averaged = c.carry_over.new.averaged in
    let assigned = c.carry_over.new.assigned in
    let merged = c.carry_over.new.merged in
    let joined = on-block-append frame (length c.split_at_mut-averaged.result.0.now) k averaged
    (assigned ++ (merged ++ last)) c.carry_over.ensures.averaged
    (on-block-append frame (length c.split_at_mut-assigned.result.0.now) n assigned (merged ++ last) c.carry_over.ensures.assigned
    (on-block-append frame (length c.split_at_mut-merged.result.0.now) (length rest3) merged last c.carry_over.ensures.merged on_last)) in
    let N : ℕ → Type 0 = λ number. AreOnBlock frame number (averaged ++ (assigned ++ (merged ++ last))) in
    let all : length c.split_at_mut-averaged.result.0.now + k ≡ length others =
    omega (arith, a.front_len, a.back_len, s.front_len, s.back_len, m.front_len, m.back_len) in
    subst N all joined
