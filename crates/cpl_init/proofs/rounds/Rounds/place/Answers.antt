use Rattle.std.proofs.Common.{◌≡◌, ◌+◌, ◌-◌, ◌*◌, ◌<◌, true, set, arith, ap, sym, ◌∙◌}
use Rattle.std.proofs.lemmas.List.{get_or_read}
use Rattle.std.proofs.lemmas.Nat.{mul-add-lt}
use Rattle.std.specs.List.{slice_index_or}
use Rattle.cpl_init.specs.Rounds.{is_in_table}
use Rattle.cpl_init.specs.declared.rounds.Rounds.{Rounds}
use Rattle.cpl_init.proofs.RoundFacts.{IsLoweredBelow-less, IsLoweredBelow-same}
use Rattle.cpl_init.proofs.rounds.Rounds.place.Goals as goal
use Rattle.cpl_init.proofs.rounds.Rounds.place.Goals.{then-index, else-index}

pub loop-at-preserved : goal.loop-at-preserved
loop-at-preserved c =
    let so_far = c.loop-at.invariant in
    let rounds = c.loop-at.self in
    let at = c.loop-at.at in
    let k = c.args.component in
    let row : at < rounds.count = omega arith in
    let column : k < rounds.count = omega arith in
    let within = mul-add-lt at rounds.count k rounds.count row column in
    let wide : c.from-wide.result ≡ rounds.count = c.from-wide.ensures ∙ sym so_far.count in
    let there : at * c.from-wide.result + c.from-in-loop-at.result ≡ at * rounds.count + k = λ j. at * wide j + c.from-in-loop-at.ensures j in
    let inside : at * c.from-wide.result + c.from-in-loop-at.result < rounds.needed.len = rw there (omega (arith, rounds.cells)) in
    let read : is_in_table rounds.count rounds.needed.items at k ≡ c.index.result.now = ap (λ n. slice_index_or rounds.needed.items n true) (sym there) ∙ sym (get_or_read rounds.needed.items _ c.index.result.now (omega (arith, rounds.needed.ok.0)) c.index.ensures true) in
    elim c.if-index.branch [
      | then-index w ↦
          let had = w.index_mut-then-index.result.now in
          let count_is : c.if-index.self.count ≡ rounds.count = ap (λ (s : Rounds). s.count) w.self-is in
          let needed_is : c.if-index.self.needed.items ≡ rounds.needed.items = ap (λ (s : Rounds). s.needed.items) w.self-is in
          let placed_is : c.if-index.self.placed.items ≡ rounds.placed.items = ap (λ (s : Rounds). s.placed.items) w.self-is in
          let missing_is : c.if-index.self.missing.items ≡ set rounds.missing.items at (had - 1) = ap (λ (s : Rounds). s.missing.items) w.self-is in
          let less = IsLoweredBelow-less at rounds.count k rounds.needed.items c.args.self.now.missing.items rounds.missing.items had (omega (arith, rounds.missing.ok.0, rounds.counts)) (read ∙ w.if-index.true) w.index_mut-then-index.ensures.value so_far.missing in
          record {
            count = count_is ∙ so_far.count;
            needed = needed_is ∙ so_far.needed;
            placed = placed_is ∙ so_far.placed;
            missing = rw (count_is, needed_is, missing_is) less;
          }
      | else-index w ↦
          let same = IsLoweredBelow-same at rounds.count k rounds.needed.items c.args.self.now.missing.items rounds.missing.items (read ∙ w.if-index.false) so_far.missing in
          rw w.self-is (record { count = so_far.count; needed = so_far.needed; placed = so_far.placed; missing = same })
    ]
