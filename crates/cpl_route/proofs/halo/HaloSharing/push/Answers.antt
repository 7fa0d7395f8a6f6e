use Rattle.std.proofs.Common.{refl, ap, sym, ◌∙◌, ◌++◌}
use Rattle.std.proofs.lemmas.List.{append-nil}
use Rattle.cpl_route.specs.Routes.{is_halo, shared_cells}
use Rattle.cpl_route.proofs.PairFacts.{pair-part, shared-halo}
use Rattle.cpl_route.proofs.halo.HaloSharing.push.Goals as goal

pub returns-then-is_far : goal.returns-then-is_far
returns-then-is_far c =
    let layout = c.args.self.now.decomp.now in
    let offsets = c.args.self.now.offsets.now in
    let part = pair-part layout offsets c.args.from c.pair-sender.result.now c.pair-sender.ensures in
    let shared = shared-halo layout offsets c.args.from c.pet_at.result c.pair-sender.result.now.part c.pair-pair.result.now c.pair-pair.ensures part in
    sym (append-nil c.args.out.now.items)
    ∙ ap (λ xs. c.args.out.now.items ++ xs) (sym (c.if-is_far.ensures refl) ∙ shared ∙ ap (shared_cells layout (is_halo layout offsets) c.args.from) c.pet_at.ensures.value)

pub returns : goal.returns
returns c =
    let layout = c.args.self.now.decomp.now in
    let offsets = c.args.self.now.offsets.now in
    let part = pair-part layout offsets c.args.from c.pair-sender.result.now c.pair-sender.ensures in
    let shared = shared-halo layout offsets c.args.from c.pet_at.result c.pair-sender.result.now.part c.pair-pair.result.now c.pair-pair.ensures part in
    c.in_ok-push_cells.ensures
    ∙ ap (λ xs. c.args.out.now.items ++ xs) (shared ∙ ap (shared_cells layout (is_halo layout offsets) c.args.from) c.pet_at.ensures.value)
