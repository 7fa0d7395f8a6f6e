use Rattle.std.proofs.Common.{◌≡◌, Bool, true, false, not, cond, get_or, take, sym, ap, ◌∙◌, refl}
use Rattle.std.specs.Str.{bytes_eq}
use Rattle.cpl_base.proofs.RepeatFacts.{repeat_behind-end, repeat_behind-new, repeat_behind-seen, stands, stands-push}
use Rattle.cpl_base.proofs.names.first_repeat.Goals as goal

pub loop-place-init : goal.loop-place-init
loop-place-init c = (refl, λ q. rw c.new-seen.ensures.empty refl)

-- what isn't new is there
not-new : (new there : Bool) → new ≡ not there → new ≡ false → there ≡ true
not-new new true is old = refl
not-new new false is old = cc

-- what is new isn't
is-new : (new there : Bool) → new ≡ not there → new ≡ true → there ≡ false
is-new new true is fresh = cc
is-new new false is fresh = refl

pub returns-then-not-branch : goal.returns-then-not-branch
returns-then-not-branch c =
    let text = c.bytes.result.now in
    let among = c.args.among.now in
    let k = c.loop-place.place in
    let there = not-new _ _ c.in_ok-insert.ensures.added c.if-not-branch.true in
    let stood : stands text (take k among) ≡ true = sym (c.loop-place.invariant.1 c.bytes.result) ∙ there in
    let is : text ≡ get_or among k text = rw c.bytes.ensures c.index-among-place.is in
    sym (c.loop-place.invariant.0 ∙ repeat_behind-seen among k text c.loop-place-test.true is stood)

pub loop-place-preserved : goal.loop-place-preserved
loop-place-preserved c =
    let text = c.bytes.result.now in
    let among = c.args.among.now in
    let k = c.loop-place.place in
    let absent = is-new _ _ c.in_ok-insert.ensures.added c.if-not-branch.false in
    let new : stands text (take k among) ≡ false = sym (c.loop-place.invariant.1 c.bytes.result) ∙ absent in
    let is : text ≡ get_or among k text = rw c.bytes.ensures c.index-among-place.is in (
      c.loop-place.invariant.0 ∙ repeat_behind-new among k text c.loop-place-test.true is new,
      λ q. c.in_ok-insert.ensures.updates.0 q ∙ ap (λ there. cond (bytes_eq text q.now) true there) (c.loop-place.invariant.1 q) ∙ stands-push q.now among k text c.loop-place-test.true is,
    )

pub returns : goal.returns
returns c = sym (c.loop-place.invariant.0 ∙ repeat_behind-end c.args.among.now c.loop-place.place c.loop-place-test.false)
