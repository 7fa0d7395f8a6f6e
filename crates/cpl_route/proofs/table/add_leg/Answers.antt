use Rattle.std.proofs.Common.{◌≡◌, ◌<◌, ℕ, length, get_or, rules, subst, arith}
use Rattle.cpl_route.specs.Routes.{shared_cells}
use Rattle.cpl_route.specs.declared.table.Span.{Span}
use Rattle.cpl_route.proofs.TableFacts.{legs-add}
use Rattle.cpl_route.proofs.table.add_leg.Goals as goal

pub returns : goal.returns
returns g c =
    let to : ℕ = get_or (g.S.Sharing.receivers c.args.sharing.now) c.args.place 0 in
    let span : Span = record { from = c.args.from; to = c.receiver.result; start = c.len-start.result; end = c.len.result } in
    let start : c.len-start.result ≡ length c.args.cells.now.items = search rules in
    let end : c.len.result ≡ length c.push.new.out.items = search rules in
    let from_byte : c.args.from < 256 = omega arith in
    let to_byte : to < 256 = subst (λ k. k < 256) c.receiver.ensures c.receiver.type_inv in
    let is_span : span ≡ record { from = c.args.from; to = to; start = length c.args.cells.now.items; end = length c.push.new.out.items } =
    λ i. record { from = c.args.from; to = c.receiver.ensures i; start = start i; end = end i } in
    legs-add c.args.spans.now.items c.args.cells.now.items c.args.from to
    (shared_cells (g.S.Sharing.src c.args.sharing.now) (g.S.Sharing.is_needed c.args.sharing.now) c.args.from to)
    c.push.new.out.items span c.note_span.new.spans.items c.requires.table from_byte to_byte c.in_ok-push.ensures is_span c.in_ok-note_span.ensures
