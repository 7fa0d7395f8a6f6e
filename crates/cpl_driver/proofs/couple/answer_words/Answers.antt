use Rattle.std.proofs.Common.{refl, sym}
use Rattle.cpl_driver.specs.Answers.{usage_reply}
use Rattle.cpl_driver.specs.Causes.{out_of_memory, wrong_words, of_file, no_memory}
use Rattle.cpl_driver.specs.Replies.{reply_of}
use Rattle.cpl_driver.proofs.CallsFacts.{nothing_delivered}
use Rattle.cpl_driver.proofs.couple.answer_words.Goals as goal

pub returns-in_default : goal.returns-in_default
returns-in_default g c = (usage_reply, wrong_words (sym c.in_default.ensures) refl refl, c.deliver.ensures)

pub returns-in-Err : goal.returns-in-Err
returns-in-Err g c = (
  out_of_memory,
  no_memory _ (sym c.in-Some.ensures) c.in-Err.ensures.counts refl,
  nothing_delivered _ _ (record { same = refl; quiet = refl }) (record { same = refl; quiet = refl }),
)

pub returns-in-Ok : goal.returns-in-Ok
returns-in-Ok g c = (
  reply_of c.in-Ok.reply,
  of_file _ (sym c.in-Some.ensures) c.in-Ok.ensures.reply,
  rw c.as_slice.ensures.value at c.deliver-in-Ok.ensures,
)
