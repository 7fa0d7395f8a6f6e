use Rattle.std.proofs.Common.{take}
use Rattle.cpl_dict.specs.Kept.{IsNotedAt, lists_of}
use Rattle.cpl_dict.proofs.NotedFacts.{HasRoomLeft}
use Rattle.cpl_dict.proofs.numbers.note.Given as goal

-- the places that were passed are noted, and the lists of the others have their room still
abbrev pub invariant-loop-place : goal.invariant-loop-place
invariant-loop-place l =
    record {
      noted : IsNotedAt (take l.place-index l.places) l.number (lists_of l.initial.lists.items) (lists_of l.lists.items);
      room : HasRoomLeft l.places l.place-index l.lists.items;
    }
