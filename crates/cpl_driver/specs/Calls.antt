-- What a call of the coupler promises.
use Rattle.std.specs.Prelude.{◌≡◌, ◌≢◌, ℕ, ◌<◌, ◌⊎◌, if◌then◌else◌, List, [], ◌++◌, Some, None, IfSome}
use Rattle.cpl_base.specs.Loading.{IsLoaded, IsMissing}
use Rattle.cpl_base.specs.Outside.{Files, Rises, Stays}
use Rattle.cpl_driver.specs.Answers.{Reply, answer, file_to_run, read_fault_line, reply_for}
use Rattle.cpl_driver.specs.Causes.{Call, Gets, IsCut, IsDelivery, IsReply, IsUntouched, goes_out}
use Rattle.cpl_driver.specs.Files.{system_of}
use Rattle.cpl_driver.specs.declared.status.Status.TheVariants as status

-- There is a reply with its cause, and it was delivered or a write failed.
abbrev pub IsDone : Call → Type 0
IsDone call =
    (reply : Reply) × IsReply call.words call.told call.faults_before call.faults_after reply
    × IsDelivery reply.status reply.text call.out call.err call.status

-- what a reply has for standard output
abbrev pub out_text : Reply → List ℕ
out_text reply = if goes_out reply.status then reply.text else []

-- what it has for standard error
abbrev pub err_text : Reply → List ℕ
err_text reply = if goes_out reply.status then [] else reply.text

-- the status and the bytes are those of a reply
pub record IsAnswer (reply : Reply) (out err : List ℕ) (call : Call) : Type 0 where
  pub status_is : call.status ≡ reply.status
  pub out_is : call.out.after ≡ Some (out ++ out_text reply)
  pub err_is : call.err.after ≡ Some (err ++ err_text reply)

-- The headline. Where the shelf and the streams tell what they hold, no count of faults rose and memory
-- lasted, status and bytes are those of the serial reading of the run sequence.
abbrev pub IsSerial : Call → Type 0
IsSerial call =
    (files : Files) (out err : List ℕ) → call.told ≡ Some files → call.out.before ≡ Some out → call.err.before ≡ Some err
    → Stays call.faults_before call.faults_after → Stays call.out.faults_before call.out.faults_after → Stays call.err.faults_before call.err.faults_after
    → call.status ≢ status.Memory → IsAnswer (answer call.words files) out err call

-- one of the answers in whose place a refusal may not come
abbrev pub IsUnderFault : Call → Type 0
IsUnderFault call =
    ((call.status ≡ status.ReadFault) × Rises call.faults_before call.faults_after) ⊎ (call.status ≡ status.WriteFault) ⊎ (call.status ≡ status.Memory)

-- The causes of every status, over every shelf and every stream.
pub record HasCauses (call : Call) : Type 0 where
  -- Ok: a file was read that describes a system; it is the named one's, where the shelf tells it
  pub ok : call.status ≡ status.Ok
      → (name bytes : List ℕ) × (file_to_run call.words ≡ Some name) × IfSome call.told (IsLoaded name bytes)
      × ((reply_for (system_of bytes)).status ≡ status.Ok) × Gets (reply_for (system_of bytes)).text call.out
      × IsUntouched call.err × (call.faults_after ≡ call.faults_before)
  -- Usage: exactly where the words are no command
  pub usage : call.status ≡ status.Usage → file_to_run call.words ≡ None
  pub usage_comes : file_to_run call.words ≡ None → (call.status ≡ status.Usage) ⊎ (call.status ≡ status.WriteFault)
  -- Refused: exactly where the definition refuses, no load having failed
  pub refusal : call.status ≡ status.Refused → (call.faults_after ≡ call.faults_before) × ((files : Files) → call.told ≡ Some files → (answer call.words files).status ≡ status.Refused)
  pub refusal_comes : (files : Files) → call.told ≡ Some files → (answer call.words files).status ≡ status.Refused → (call.status ≡ status.Refused) ⊎ IsUnderFault call
  -- ReadFault: the shelf's count rose, or the shelf tells that it has no such file
  pub read_fault : call.status ≡ status.ReadFault
      → (name : List ℕ) × (file_to_run call.words ≡ Some name)
      × (Rises call.faults_before call.faults_after ⊎ IsMissing name call.told)
      × Gets (read_fault_line name) call.err × IsUntouched call.out
  pub read_fault_comes : call.faults_before < call.faults_after → (call.status ≡ status.ReadFault) ⊎ (call.status ≡ status.WriteFault) ⊎ (call.status ≡ status.Memory)
  -- WriteFault: in place of a reply, the count of whose stream rose, and whose text was cut short. Over
  -- a shelf that tells its files that reply is the answer, or the one to a load whose count rose.
  pub write_fault : call.status ≡ status.WriteFault
      → (reply : Reply) × IsReply call.words call.told call.faults_before call.faults_after reply
      × IsCut reply.text (if goes_out reply.status then call.out else call.err)
      × IsUntouched (if goes_out reply.status then call.err else call.out)
      × ((files : Files) → call.told ≡ Some files
      → (reply ≡ answer call.words files) ⊎ ((reply.status ≡ status.ReadFault) × Rises call.faults_before call.faults_after))
  pub write_fault_comes : (call.out.faults_before < call.out.faults_after) ⊎ (call.err.faults_before < call.err.faults_after) → call.status ≡ status.WriteFault
  -- want of memory: nothing was written
  pub memory : call.status ≡ status.Memory → IsUntouched call.out × IsUntouched call.err
