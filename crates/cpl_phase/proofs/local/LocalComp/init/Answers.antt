use Rattle.std.proofs.Common.{◌∙◌, ◌<◌, ℕ, List, ap, length, pos, subst, sym}
use Rattle.std.specs.List.{All}
use Rattle.cpl_comp.proofs.MarkFacts.{marks-after_init}
use Rattle.cpl_comp.specs.Marks.{marks_after_init}
use Rattle.cpl_comp.specs.Turns.{places_of, reading_of}
use Rattle.cpl_comp.specs.Writes.{fields_started}
use Rattle.cpl_comp.specs.declared.component.Role.TheVariants.{Export}
use Rattle.cpl_entry.specs.Books.{entries_of}
use Rattle.cpl_marks.specs.Held.{marks_in}
use Rattle.cpl_rule.specs.Assigned.{answers_of}
use Rattle.cpl_rule.specs.Moments.{timing_of}
use Rattle.cpl_phase.proofs.BeginFacts.{places-below}
use Rattle.cpl_phase.proofs.StampedFacts.{held-stamped, kept-stamped, shown-stamped}
use Rattle.cpl_phase.proofs.local.LocalComp.init.Goals as goal

pub stamp_start-requires : goal.stamp_start-requires
stamp_start-requires g c =
    let comp = c.args.comp.now in
    let local = c.start.ensures.local in
    subst (λ (places : List ℕ). All (λ k. k < length c.start.new.self.marks.stamps) places) (sym (c.items.ensures ∙ local.exports))
    (subst (λ n. All (λ k. k < n) (places_of Export comp.fields)) (sym local.stamps) (places-below Export comp.fields))

pub returns-clause-after : goal.returns-clause-after
returns-clause-after g c = λ world stands arrived.
    let comp = c.args.comp.now in
    let local = c.start.new.self in
    let timing = timing_of c.args.times in
    let entries = answers_of (entries_of c.args.book.now) in
    let started = fields_started (reading_of timing entries comp world.fields (pos 0) (pos 0)) world.fields comp.fields in
    let exports = places_of Export comp.fields in
    let after = c.start.ensures.after world stands arrived in
    record {
      marks = marks-after_init timing entries comp world
          ∙ ap (marks_after_init comp) (stands.marks ∙ ap marks_in (sym c.start.ensures.marks))
          ∙ sym (c.stamp_start.ensures.marks comp (c.items.ensures ∙ c.start.ensures.local.exports));
      values = held-stamped (pos 0) started exports local.frame (length comp.fields) local.fields after.values;
      kept = kept-stamped (pos 0) started exports local.frame (length comp.fields) local.accums after.kept;
      shown = shown-stamped (pos 0) started exports local.frame (length comp.fields) local.shown after.shown;
    }
