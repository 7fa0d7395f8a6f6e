-- A reply as the code keeps it, against the reply of the definitions.
use Rattle.cpl_driver.specs.Answers as answers
use Rattle.cpl_driver.specs.declared.couple.Reply.{Reply}

-- the reply that the code keeps
abbrev pub reply_of : Reply → answers.Reply
reply_of reply = record { status = reply.status; text = reply.text.items }
