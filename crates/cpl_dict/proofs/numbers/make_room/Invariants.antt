use Rattle.std.proofs.Common.{◌≡◌, All, take}
use Rattle.std.specs.List.{HoldsAt}
use Rattle.cpl_dict.specs.Kept.{HasRoom, lists_of}
use Rattle.cpl_dict.proofs.numbers.make_room.Given as goal

-- the numbers stay, and the places that were passed have room
abbrev pub invariant-loop-place : goal.invariant-loop-place
invariant-loop-place l =
    record {
      items : lists_of l.lists.items ≡ lists_of l.initial.lists.items;
      room : All (HoldsAt HasRoom l.lists.items) (take l.place-index l.places);
    }
