use Rattle.std.proofs.Common.{◌≡◌, [], Some, is_some, get_or, ap, subst, sym, ◌∙◌, take, ◌+◌, List, ℕ}
use Rattle.std.specs.Map.{lookup}
use Rattle.std.specs.Str.{bytes_eq}
use Rattle.cpl_dict.specs.Kept.{IsPlacedAs, names_of}
use Rattle.cpl_dict.proofs.NamesFacts.{IsPlacedAs-more, known-found, place-names_of, place_in, read-at}
use Rattle.cpl_dict.proofs.places.places_of.Goals as goal

pub unreachable-requires : goal.unreachable-requires
unreachable-requires c =
    known-found c.args.names.now.entries c.args.group.now c.loop-name.name-index c.name-item.result c.requires c.loop-name-test.true c.name-item.is
    (ap is_some (sym c.in-None.is) ∙ c.get_index_of.ensures.found ∙ ap (λ name. is_some (lookup (λ v. bytes_eq name v.items) c.args.names.now.entries)) c.bytes.ensures)

pub loop-name-preserved : goal.loop-name-preserved
loop-name-preserved c =
    let names = names_of c.args.names.now.entries in
    let group = c.args.group.now in
    let k = c.loop-name.name-index in
    let name = c.name-item.result in
    let at : place_in names (get_or group k []) ≡ Some c.in-Some.place =
    ap (place_in names) (sym (read-at group k name c.loop-name-test.true c.name-item.is) ∙ sym c.bytes.ensures)
    ∙ sym (place-names_of c.bytes.result.now c.args.names.now.entries)
    ∙ sym c.get_index_of.ensures.index ∙ c.in-Some.is in
    subst (λ (places : List ℕ). IsPlacedAs names places (take (k + 1) group)) (sym c.in_ok-push-in-Some.ensures.items)
    (IsPlacedAs-more names group k c.in-Some.place c.loop-name.places.items c.loop-name-test.true at c.loop-name.invariant)
