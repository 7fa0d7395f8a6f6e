use Rattle.std.proofs.Common.{refl, ap, sym, ◌∙◌, length}
use Rattle.cpl_route.specs.Routes.{is_halo, shared_cells}
use Rattle.cpl_route.proofs.PairFacts.{pair-part, shared-halo}
use Rattle.cpl_route.proofs.halo.HaloSharing.count.Goals as goal

pub returns-then-is_far-clause-value : goal.returns-then-is_far-clause-value
returns-then-is_far-clause-value c =
    let layout = c.args.self.now.decomp.now in
    let offsets = c.args.self.now.offsets.now in
    let part = pair-part layout offsets c.args.from c.pair-sender.result.now c.pair-sender.ensures in
    let shared = shared-halo layout offsets c.args.from c.pet_at.result c.pair-sender.result.now.part c.pair-pair.result.now c.pair-pair.ensures part in
    ap length (sym (c.if-is_far.ensures refl) ∙ shared ∙ ap (shared_cells layout (is_halo layout offsets) c.args.from) c.pet_at.ensures.value)

pub returns-clause-value : goal.returns-clause-value
returns-clause-value c =
    let layout = c.args.self.now.decomp.now in
    let offsets = c.args.self.now.offsets.now in
    let part = pair-part layout offsets c.args.from c.pair-sender.result.now c.pair-sender.ensures in
    let shared = shared-halo layout offsets c.args.from c.pet_at.result c.pair-sender.result.now.part c.pair-pair.result.now c.pair-pair.ensures part in
    c.count_cells.ensures.value ∙ ap length (shared ∙ ap (shared_cells layout (is_halo layout offsets) c.args.from) c.pet_at.ensures.value)
