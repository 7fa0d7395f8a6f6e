use Rattle.cpl_match.proofs.WayFacts.{IsIndexed-kept_at, IsIndexed-new_at}
use Rattle.cpl_match.proofs.way_table.note_way.Goals as goal

pub returns-then-is_none : goal.returns-then-is_none
returns-then-is_none c = λ ways count indexed.
    IsIndexed-new_at ways c.args.places.now.items c.args.way c.slot-slot.result c.args.place c.index.result.now count c.slot-slot.ensures.src c.slot-slot.ensures.dst c.slot-slot.ensures.slot c.index.ensures c.if-is_none.ensures indexed

pub returns-else-is_none : goal.returns-else-is_none
returns-else-is_none c = λ ways count indexed.
    IsIndexed-kept_at ways c.args.places.now.items c.args.way c.slot-slot.result c.index.result.now c.slot-slot.ensures.src c.slot-slot.ensures.dst c.slot-slot.ensures.slot c.index.ensures c.if-is_none.ensures indexed
