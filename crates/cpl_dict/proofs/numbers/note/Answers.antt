use Rattle.std.specs.List.{HoldsAt}
use Rattle.cpl_dict.specs.Kept.{HasRoom}
use Rattle.cpl_dict.proofs.NotedFacts.{All-has_number, HasRoomLeft-more, IsNextList, IsNotedAt-none, next_has_room, next_noted}
use Rattle.cpl_dict.proofs.numbers.note.Goals as goal

pub loop-place-init : goal.loop-place-init
loop-place-init c = record {
  noted = IsNotedAt-none _ _;
  room = λ p among before. All-has_number (HoldsAt HasRoom c.args.lists.now.items) c.args.places.now p c.requires.room among;
}

pub note_once-requires : goal.note_once-requires
note_once-requires c ends =
    let next : IsNextList c.args.places.now c.loop-place.place-index c.args.number c.args.lists.now.items c.loop-place.lists.items c.index_mut.result.now = record {
      inside = c.loop-place-test.true;
      placed = c.requires.placed c.loop-place.place-index 0 c.loop-place-test.true;
      below = c.requires.above;
      noted = c.loop-place.invariant.noted;
      read = c.index_mut.ensures.value;
    } in next_has_room next c.loop-place.invariant.room ends

pub loop-place-preserved : goal.loop-place-preserved
loop-place-preserved c =
    let next : IsNextList c.args.places.now c.loop-place.place-index c.args.number c.args.lists.now.items c.loop-place.lists.items c.index_mut.result.now = record {
      inside = c.loop-place-test.true;
      placed = c.requires.placed c.loop-place.place-index 0 c.loop-place-test.true;
      below = c.requires.above;
      noted = c.loop-place.invariant.noted;
      read = c.index_mut.ensures.value;
    } in
    record {
      noted = next_noted next c.note_once.new.list c.note_once.ensures;
      room = HasRoomLeft-more _ _ _ _ c.loop-place-test.true c.loop-place.invariant.room;
    }
