use Rattle.std.proofs.Common.{◌<◌, ◌∙◌, List, ℤ, length, ap, arith, get_or, subst, sym}
use Rattle.cpl_comp.specs.Worlds.{field_at as world_at, no_field}
use Rattle.cpl_comp.specs.declared.component.Field.{Field}
use Rattle.cpl_script.specs.SerialRun.{field_end}
use Rattle.cpl_serial.proofs.EndingFacts.{holds-at, made-more, stamp-at}
use Rattle.cpl_serial.proofs.ending.field_ends.Goals as goal

pub loop-k-preserved : goal.loop-k-preserved
loop-k-preserved c = λ world stands.
    let comp = c.args.comp.now in
    let local = c.args.local.now in
    let k = c.loop-k.k in
    let field = c.index-fields-k.result in
    let below : k < length comp.fields = subst (λ (xs : List Field). k < length xs) c.items-k-end.ensures c.loop-k-test.true in
    let number = c.requires.local.fields.number in
    let inside : k < length local.fields = omega (arith, below, number) in
    let within : k < length world.fields = subst (λ n. k < n) (sym stands.values.number) below in
    let stamped = stamp-at comp local world stands c.items-stamps.result.now k _ below c.items-stamps.ensures in
    let holds = holds-at comp local world stands k field below inside
    (c.index-fields-k.is ∙ ap (λ (xs : List (List ℤ)). get_or xs k field) c.items-fields.ensures) in
    let is = c.field_end.ensures comp.decomp (world_at world.fields k) (sym c.requires.local.over) stamped holds in
    made-more (field_end comp.decomp) world.fields k no_field c.loop-k.ends.items c.push.new.self.items c.field_end.result within
    c.in_ok-push.ensures.items is (c.loop-k.invariant world stands)
