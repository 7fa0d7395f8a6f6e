use Rattle.std.proofs.Common.{◌<◌, ◌≤◌, ℕ, List, arith, length, subst}
use Rattle.cpl_entry.specs.Books.{entries_of}
use Rattle.cpl_comp.specs.Writes.{average_write, emptied, kept_more}
use Rattle.cpl_comp.specs.declared.component.MergeRow.{MergeRow}
use Rattle.cpl_comp.specs.declared.component.SetRow.{SetRow}
use Rattle.cpl_rule.specs.Inputs.{IsHaloed, arguments_of}
use Rattle.cpl_sweep.specs.Places.{field_at}
use Rattle.cpl_phase.specs.Assignments.{AreAssigned, AreMerged}
use Rattle.cpl_phase.specs.Kept.{StandForKept}
use Rattle.cpl_phase.specs.Worlds.{IsWritten}
use Rattle.std.specs.List.{All}
use Rattle.std.specs.Prelude.{fold, slice_index}
use Rattle.cpl_phase.proofs.WrittenFacts.{averages-written, merges-written, sets-written}
use Rattle.cpl_phase.proofs.working.work_out.Goals as goal

pub returns-clause-news : goal.returns-clause-news
returns-clause-news g c = λ reading world at entries held hold kept.
    let scene = c.args.scene.now in
    let frame = scene.frame in
    let count = scene.fields in
    let phase = c.args.phase.now in
    let halo = phase.halo.fields in
    let fields = c.args.fields.now in
    let laws = c.frame_laws.ensures in
    let averaged = c.average_all.new.others in
    let assigned = c.assign_all.new.others in
    let merged = c.merge_all.new.others in
    let many : length phase.averages ≤ length averaged = omega (arith, c.requires.average_count, c.average_all.auto.others) in
    let set_many : length phase.sets ≤ length assigned = omega (arith, c.requires.set_count, c.assign_all.auto.others) in
    let merge_many : length phase.merges ≤ length merged = omega (arith, c.requires.merge_count, c.merge_all.auto.others) in
    let Means : List ℕ → Type 0 = λ ks. All (λ k. k < count) ks → (j : ℕ) → j < length ks
    → IsWritten frame (average_write reading.layout world (slice_index ks j)) (field_at averaged j) in
    let means = subst Means c.items.ensures (c.average_all.ensures.written reading.layout count world at.over hold kept) c.requires.phase.averages in
    let Assigned : List SetRow → Type 0 = λ rows. AreAssigned scene (entries_of c.args.book.now) rows fields assigned in
    let Merged : List MergeRow → Type 0 = λ rows. AreMerged frame rows fields merged in
    record {
      averages = averages-written frame reading.layout world phase.averages averaged many means;
      sets = sets-written scene (entries_of c.args.book.now) halo reading fields laws at entries held phase.sets assigned set_many
          c.requires.phase.sets_haloed (subst Assigned c.items-2.ensures c.assign_all.ensures.values);
      merges = merges-written frame count halo reading fields laws at.over held phase.merges merged merge_many c.requires.phase.merges
          (subst Merged c.items-3.ensures c.merge_all.ensures.values);
    }

pub returns-clause-kept : goal.returns-clause-kept
returns-clause-kept g c = λ reading world at entries held kept.
    let count = c.args.scene.now.fields in
    let phase = c.args.phase.now in
    let frame = c.args.scene.now.frame in
    let Emptied : List ℕ → Type 0 = λ ks. StandForKept frame count (fold emptied world ks) c.average_all.new.accums in
    let forgotten = fold emptied world phase.averages in
    let still : StandForKept frame count forgotten c.average_all.new.accums =
    subst Emptied c.items.ensures (c.average_all.ensures.kept count world kept) in
    let Adds : List SetRow → Type 0 = λ rows. All (λ row. All (IsHaloed phase.halo.fields) (arguments_of row.rule)) rows
    → StandForKept frame count (fold (kept_more reading) forgotten rows) c.keep_all.new.accums in
    subst Adds c.items-4.ensures
    (λ haloed. c.keep_all.ensures.kept phase.halo.fields reading count forgotten at entries haloed held still) c.requires.phase.adds_haloed

pub returns-clause-aged : goal.returns-clause-aged
returns-clause-aged g c = λ bound each. c.keep_all.ensures.aged bound (c.average_all.ensures.aged bound each)
