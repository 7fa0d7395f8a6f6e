use Rattle.std.proofs.Common.{◌≡◌, ◌+◌, ◌-◌, ◌*◌, ◌≤◌, length, arith, rules, vec_len, ◌∙◌}
use Rattle.std.proofs.lemmas.Grind.{get_or_default_zero}
use Rattle.std.proofs.lemmas.Nat.{mul-le}
use Rattle.cpl_route.proofs.WalkFacts.{copied-all, copied-fits, copied-length, copied-more, copied-none, copies-turned, copy-inside, pos-of_mul}
use Rattle.cpl_route.proofs.walk.copy_down.Goals as goal

pub overflow_mul-copies : goal.overflow_mul-copies
overflow_mul-copies c =
    let long : c.len.result ≡ length c.args.out.now.items = search rules in
    let few = c.requires.few in
    let more = c.ranges.more.fits in
    let wide : c.len.result - c.args.from ≤ 1048576 = omega arith in
    let product = mul-le c.args.more (c.len.result - c.args.from) 4294967296 1048576 (omega arith) wide in
    omega arith

pub loop-k-init : goal.loop-k-init
loop-k-init c = copied-none c.args.nx c.args.from c.args.more c.args.out.now.items c.requires.place

pub index-cell-requires : goal.index-cell-requires
index-cell-requires c =
    let long : c.len.result ≡ length c.args.out.now.items = search rules in
    let inside = copy-inside c.loop-k.k c.args.more c.len.result _ c.args.from long c.loop-k-test.true in
    let now_long = copied-length c.args.nx c.args.from c.args.more c.loop-k.k c.args.out.now.items c.loop-k.out.items c.requires.place c.loop-k.invariant (omega arith) in
    let same : vec_len c.loop-k.out ≡ length c.loop-k.out.items = search rules in
    let some = pos-of_mul (length c.args.out.now.items - c.args.from) c.args.more c.loop-k.k inside in
    rw same (omega arith)

pub overflow_add-cell : goal.overflow_add-cell
overflow_add-cell c =
    let long : c.len.result ≡ length c.args.out.now.items = search rules in
    let inside = copy-inside c.loop-k.k c.args.more c.len.result _ c.args.from long c.loop-k-test.true in
    let now_long = copied-length c.args.nx c.args.from c.args.more c.loop-k.k c.args.out.now.items c.loop-k.out.items c.requires.place c.loop-k.invariant (omega arith) in
    let some = pos-of_mul (length c.args.out.now.items - c.args.from) c.args.more c.loop-k.k inside in
    let read = c.index-cell.ensures ∙ get_or_default_zero c.loop-k.out.items (c.args.from + c.loop-k.k) c.index-cell.result.now (omega arith) in
    let fits = copied-fits c.args.nx c.args.from c.args.more c.loop-k.k 4294967296 c.args.out.now.items c.loop-k.out.items c.requires.place c.loop-k.invariant inside c.requires.fits in
    omega arith

pub loop-k-preserved : goal.loop-k-preserved
loop-k-preserved c =
    let long : c.len.result ≡ length c.args.out.now.items = search rules in
    let inside = copy-inside c.loop-k.k c.args.more c.len.result _ c.args.from long c.loop-k-test.true in
    let now_long = copied-length c.args.nx c.args.from c.args.more c.loop-k.k c.args.out.now.items c.loop-k.out.items c.requires.place c.loop-k.invariant (omega arith) in
    let some = pos-of_mul (length c.args.out.now.items - c.args.from) c.args.more c.loop-k.k inside in
    let read = c.index-cell.ensures ∙ get_or_default_zero c.loop-k.out.items (c.args.from + c.loop-k.k) c.index-cell.result.now (omega arith) in
    copied-more c.args.nx c.args.from c.args.more c.loop-k.k c.index-cell.result.now c.args.out.now.items c.loop-k.out.items c.push.new.self.items
    c.requires.place c.loop-k.invariant inside read c.in_ok-push.ensures.items

pub returns : goal.returns
returns c =
    let long : c.len.result ≡ length c.args.out.now.items = search rules in
    let all : c.loop-k.k ≡ c.args.more * (c.len.result - c.args.from) = omega arith in
    copied-all c.args.nx c.args.from c.args.more c.loop-k.k c.args.out.now.items c.loop-k.out.items c.requires.place c.loop-k.invariant
    (all ∙ copies-turned c.args.more c.len.result _ c.args.from long)
