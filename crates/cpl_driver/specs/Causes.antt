-- Why a command ends as it does: what replies there are and what brings each, and how a reply is
-- delivered. Nothing here asks that the shelf or the streams tell what they hold.
use Rattle.std.specs.Prelude.{◌≡◌, ℕ, ◌<◌, ◌≤◌, ◌⊎◌, Bool, true, false, if◌then◌else◌, List, [], length, take, Option, Some, None, IfSome}
use Rattle.cpl_base.specs.Loading.{IsLoaded, IsLonger, IsMissing}
use Rattle.cpl_base.specs.Outside.{Files, Rises, bytes_after}
use Rattle.cpl_driver.specs.Answers.{Reply, file_to_run, most_bytes, reply_for, too_long_reply, unread_reply, usage_reply}
use Rattle.cpl_driver.specs.Files.{system_of}
use Rattle.cpl_driver.specs.declared.status.Status.{Status}
use Rattle.cpl_driver.specs.declared.status.Status.TheVariants as status

-- a stream over a call: what it told before and after, and its count of faults before and after
pub record Stream : Type 0 where
  pub before : Option (List ℕ)
  pub after : Option (List ℕ)
  pub faults_before : ℕ
  pub faults_after : ℕ

-- a stream, part by part
abbrev pub stream : Option (List ℕ) → Option (List ℕ) → ℕ → ℕ → Stream
stream before after faults_before faults_after = record { before = before; after = after; faults_before = faults_before; faults_after = faults_after }

-- all that is seen of a call of the coupler
pub record Call : Type 0 where
  pub words : List (List ℕ)
  pub told : Option Files
  pub faults_before : ℕ
  pub faults_after : ℕ
  pub out : Stream
  pub err : Stream
  pub status : Status

-- a call, part by part
abbrev pub call : List (List ℕ) → Option Files → ℕ → ℕ → Stream → Stream → Status → Call
call words told faults_before faults_after out err status = record { words = words; told = told; faults_before = faults_before; faults_after = faults_after; out = out; err = err; status = status }

-- ---- what brings a reply

-- the reply for want of memory: nothing is said
abbrev pub out_of_memory : Reply
out_of_memory = record { status = status.Memory; text = [] }

-- Why a file gets this reply: from what the shelf tells, and its count of faults before and after.
pub data IsFileReply (name : List ℕ) (told : Option Files) (before after : ℕ) (reply : Reply) : Type 0 where
  -- the file was read: these are its bytes, wherever the shelf tells them
  loaded : (bytes : List ℕ) → IfSome told (IsLoaded name bytes) → length bytes ≤ most_bytes → after ≡ before → reply ≡ reply_for (system_of bytes) → IsFileReply name told before after reply
  -- the file has more bytes than the limit
  longer : IfSome told (IsLonger name most_bytes) → after ≡ before → reply ≡ too_long_reply name → IsFileReply name told before after reply
  -- the file couldn't be read: the shelf's count rose, or it tells that it has no such file
  not_loaded : Rises before after ⊎ IsMissing name told → before ≤ after → reply ≡ unread_reply name → IsFileReply name told before after reply

-- Why this reply is given to the words.
pub data IsReply (words : List (List ℕ)) (told : Option Files) (before after : ℕ) (reply : Reply) : Type 0 where
  -- the words are no command
  wrong_words : file_to_run words ≡ None → after ≡ before → reply ≡ usage_reply → IsReply words told before after reply
  -- they name a file
  of_file : (name : List ℕ) → file_to_run words ≡ Some name → IsFileReply name told before after reply → IsReply words told before after reply
  -- they name a file, and memory ran out
  no_memory : (name : List ℕ) → file_to_run words ≡ Some name → before ≤ after → reply ≡ out_of_memory → IsReply words told before after reply

-- ---- how a reply is delivered

-- a stream that got nothing, and had no fault
pub record IsUntouched (stream : Stream) : Type 0 where
  pub same : stream.after ≡ stream.before
  pub quiet : stream.faults_after ≡ stream.faults_before

-- a stream that got a text, and had no fault
pub record Gets (text : List ℕ) (stream : Stream) : Type 0 where
  pub all : stream.after ≡ bytes_after stream.before text
  pub quiet : stream.faults_after ≡ stream.faults_before

-- a stream whose count of faults rose, and that got a proper prefix of a text
pub record IsCut (text : List ℕ) (stream : Stream) : Type 0 where
  pub part : ℕ
  pub proper : part < length text
  pub prefix : stream.after ≡ bytes_after stream.before (take part text)
  pub counts : stream.faults_before ≤ stream.faults_after
  pub rises : Rises stream.faults_before stream.faults_after

-- standard output gets the text of status Ok, standard error that of every other
abbrev pub goes_out : Status → Bool
goes_out status.Ok = true
goes_out status.Usage = false
goes_out status.Refused = false
goes_out status.ReadFault = false
goes_out status.WriteFault = false
goes_out status.Memory = false

-- A text went to its stream, and the status is the one that belongs to it; or a write failed, and the
-- status is WriteFault.
abbrev pub IsSentOrCut : Status → List ℕ → Stream → Status → Type 0
IsSentOrCut wanted text mine given = ((given ≡ wanted) × Gets text mine) ⊎ ((given ≡ status.WriteFault) × IsCut text mine)

-- A reply of this status and text was delivered: to the stream where it belongs, whole or cut short by a fault of a write,
-- and nothing to the other.
pub record IsDelivery (wanted : Status) (text : List ℕ) (out err : Stream) (given : Status) : Type 0 where
  pub mine : IsSentOrCut wanted text (if goes_out wanted then out else err) given
  pub other : IsUntouched (if goes_out wanted then err else out)
