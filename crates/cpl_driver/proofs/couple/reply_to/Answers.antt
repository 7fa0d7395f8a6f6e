use Rattle.std.proofs.Common.{◌≡◌, ◌∙◌, ap, inl, inr}
use Rattle.std.proofs.lemmas.Result.{IfOk-weaker}
use Rattle.cpl_driver.specs.Answers.{reply_for}
use Rattle.cpl_driver.specs.Causes.{loaded}
use Rattle.cpl_driver.specs.Files.{system_of}
use Rattle.cpl_driver.proofs.couple.reply_to.Goals as goal

-- a file that was read, with its bytes
pub returns-in-Ok-clause-reply : goal.returns-in-Ok-clause-reply
returns-in-Ok-clause-reply g c =
    let read = c.in-Ok.ensures.loaded in
    let quiet : g.H.Shelf.faults c.load.new.self ≡ g.H.Shelf.faults c.args.shelf.now = elim c.in-Ok.ensures.quiet [ inl failed ↦ cc | inr same ↦ same ] in
    IfOk-weaker c.reply_to_bytes.result _ _
    (λ reply is. loaded c.in-Ok.bytes.items read.1 read.0 quiet (is ∙ ap (λ bytes. reply_for (system_of bytes)) c.as_slice.ensures.value))
    c.reply_to_bytes.ensures
