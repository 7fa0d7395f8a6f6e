use Rattle.std.proofs.Common.{◌∙◌, subst, sym}
use Rattle.std.specs.Prelude.{◌≡◌, ◌<◌, ℕ, ℤ, List, length}
use Rattle.cpl_comp.specs.Worlds.{field_at as world_at}
use Rattle.cpl_sweep.specs.Places.{field_at}
use Rattle.cpl_phase.specs.Worlds.{block_values}
use Rattle.cpl_phase.proofs.ImportFacts.{taken_fields, taken-held, taken-kept, taken-marks, taken-shown}
use Rattle.cpl_phase.proofs.local.LocalComp.import.Goals as goal

pub returns-clause-after : goal.returns-clause-after
returns-clause-after c = λ world whole stands are.
    let local = c.args.self.now in
    let place = c.args.field in
    record {
      marks = taken-marks whole c.args.stamp place world local.marks stands.marks ∙ sym c.set_stamp.ensures;
      values = taken-held whole c.args.stamp place world.fields local.frame _ c.args.values.now are c.requires.field local.fields _
          c.put_values.ensures stands.values;
      kept = taken-kept whole c.args.stamp place world.fields local.frame _ c.args.values.now are c.requires.field local.accums stands.kept;
      shown = subst (λ (shown : List (List ℤ)). (k : ℕ) → k < length c.args.comp.now.fields
          → field_at shown k ≡ block_values local.frame (world_at (taken_fields whole c.args.stamp place world.fields) k)) (sym c.show_values.ensures)
          (taken-shown whole c.args.stamp place world.fields local.frame _ c.args.values.now are c.requires.field local.shown stands.values.number
          c.requires.local.shown stands.shown);
    }
