use Rattle.std.proofs.Common.{◌≡◌, ◌<◌, length, get_or, take, All, arith, ap, subst, ◌∙◌}
use Rattle.std.proofs.lemmas.List.{take_all}
use Rattle.std.specs.List.{HoldsAt}
use Rattle.cpl_dict.specs.Kept.{HasRoom}
use Rattle.cpl_dict.proofs.NotedFacts.{HasRoom-more, length-lists_of, lists_of-set_same}
use Rattle.cpl_dict.proofs.numbers.make_room.Goals as goal

pub returns-in_err-reserve-clause-items : goal.returns-in_err-reserve-clause-items
returns-in_err-reserve-clause-items c =
    let so_far = c.loop-place.invariant in
    let as_many = length-lists_of _ _ so_far.items in
    let placed = c.requires c.loop-place.place-index 0 c.loop-place-test.true in
    let inside : get_or c.args.places.now c.loop-place.place-index 0 < length c.loop-place.lists.items = omega (arith, as_many, placed) in
    lists_of-set_same _ _ _ _ inside (c.reserve.ensures.items ∙ ap (λ l. l.items) c.index_mut-list.ensures.value) ∙ so_far.items

pub loop-place-preserved : goal.loop-place-preserved
loop-place-preserved c =
    let so_far = c.loop-place.invariant in
    let as_many = length-lists_of _ _ so_far.items in
    let placed = c.requires c.loop-place.place-index 0 c.loop-place-test.true in
    let inside : get_or c.args.places.now c.loop-place.place-index 0 < length c.loop-place.lists.items = omega (arith, as_many, placed) in
    let room : HasRoom c.reserve.new.self = omega (arith, c.in_ok-reserve.ensures.ok) in
    record {
      items = lists_of-set_same _ _ _ _ inside (c.reserve.ensures.items ∙ ap (λ l. l.items) c.index_mut-list.ensures.value) ∙ so_far.items;
      room = HasRoom-more _ _ _ _ c.loop-place-test.true inside room so_far.room;
    }

pub returns-clause-room : goal.returns-clause-room
returns-clause-room c =
    let all : take c.loop-place.place-index c.args.places.now ≡ c.args.places.now = take_all _ _ c.loop-place-test.false in
    subst (All (HoldsAt HasRoom c.loop-place.lists.items)) all c.loop-place.invariant.room
