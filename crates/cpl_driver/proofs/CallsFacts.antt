-- What follows of a call from a reply with its cause, and from how it was delivered.
use Rattle.std.proofs.Common.{◌≡◌, ◌≢◌, ℕ, ◌<◌, ◌≤◌, ◌⊎◌, inl, inr, Bool, true, false, cond, List, [], length, Option, Some, None, IfSome, refl, sym, ap, ◌∙◌, arith}
use Rattle.std.proofs.lemmas.Bool.{le-ltb, lt-ltb}
use Rattle.std.proofs.lemmas.List.{append-nil}
use Rattle.cpl_base.specs.Loading.{IsLoaded, IsLonger, IsMissing}
use Rattle.cpl_base.specs.Outside.{Files, Rises, Stays, bytes_after}
use Rattle.cpl_driver.specs.Answers.{Reply, answer, file_to_run, most_bytes, reply_for, reply_to, reply_with, too_long_reply, unread_reply, usage_reply}
use Rattle.cpl_driver.specs.Calls.{HasCauses, IsDone, IsSerial, IsUnderFault, err_text, out_text}
use Rattle.cpl_driver.specs.Causes.{Call, Gets, IsCut, IsDelivery, IsFileReply, IsReply, IsUntouched, Stream, goes_out, longer, loaded, no_memory, not_loaded, of_file, out_of_memory, wrong_words}
use Rattle.cpl_driver.specs.Files.{system_of}
use Rattle.cpl_driver.specs.declared.system.System.{System}
use Rattle.cpl_driver.specs.declared.status.Status.{Status}
use Rattle.cpl_driver.specs.declared.status.Status.TheVariants as status

-- what a stream tells after nothing went to it
bytes_after-nil : (told : Option (List ℕ)) → bytes_after told [] ≡ told
bytes_after-nil None = refl
bytes_after-nil (Some so_far) = ap Some (append-nil so_far)

-- where memory ran out, nothing is delivered
pub nothing_delivered : (out err : Stream) → IsUntouched out → IsUntouched err → IsDelivery out_of_memory.status out_of_memory.text out err status.Memory
nothing_delivered out err quiet silent = record {
  mine = inl (refl, record { all = silent.same ∙ sym (bytes_after-nil err.before); quiet = silent.quiet });
  other = quiet;
}

-- ---- the reply, against the answer

-- a file that isn't too long is read
within : (name bytes : List ℕ) → length bytes ≤ most_bytes → reply_to name (Some bytes) ≡ reply_for (system_of bytes)
within name bytes fits = ap (λ b. cond b (too_long_reply name) (reply_for (system_of bytes))) (le-ltb most_bytes (length bytes) fits)

-- a file that is too long is refused
beyond : (name bytes : List ℕ) → most_bytes < length bytes → reply_to name (Some bytes) ≡ too_long_reply name
beyond name bytes over = ap (λ b. cond b (too_long_reply name) (reply_for (system_of bytes))) (lt-ltb most_bytes (length bytes) over)

-- the answer to words that name a file
answer_at : (words : List (List ℕ)) (files : Files) (name : List ℕ) → file_to_run words ≡ Some name → answer words files ≡ reply_to name (files name)
unfolding answer
answer_at words files name names = ap (reply_with files) names

-- the answer to words that are no command
answer_none : (words : List (List ℕ)) (files : Files) → file_to_run words ≡ None → answer words files ≡ usage_reply
unfolding answer
answer_none words files none = ap (reply_with files) none

-- over a shelf that tells its files, the reply is the answer, or that to a load whose count rose
file_told : (name : List ℕ) (told : Option Files) (files : Files) (before after : ℕ) (reply : Reply) → told ≡ Some files → IsFileReply name told before after reply → (reply ≡ reply_to name (files name)) ⊎ ((reply.status ≡ status.ReadFault) × Rises before after)
file_told name told files before after reply tells (loaded bytes read fits same is) =
    let found : files name ≡ Some bytes = rw tells at read in
    inl (is ∙ sym (ap (reply_to name) found ∙ within name bytes fits))
file_told name told files before after reply tells (longer over same is) =
    let long : IsLonger name most_bytes files = rw tells at over in
    inl (is ∙ sym (ap (reply_to name) long.1 ∙ beyond name long.0 long.2))
file_told name told files before after reply tells (not_loaded (inl rises) counts is) = inr (ap (λ r. r.status) is, rises)
file_told name told files before after reply tells (not_loaded (inr missing) counts is) =
    let none : files name ≡ None = rw tells at missing in
    inl (is ∙ sym (ap (reply_to name) none))

-- the same of the words: the reply may also be that to want of memory
told_of : (words : List (List ℕ)) (told : Option Files) (files : Files) (before after : ℕ) (reply : Reply) → told ≡ Some files → IsReply words told before after reply → (reply ≡ answer words files) ⊎ (((reply.status ≡ status.ReadFault) × Rises before after) ⊎ (reply ≡ out_of_memory))
told_of words told files before after reply tells (wrong_words none same is) = inl (is ∙ sym (answer_none words files none))
told_of words told files before after reply tells (of_file name names cause) =
    elim (file_told name told files before after reply tells cause) [
      | inl same ↦ inl (same ∙ sym (answer_at words files name names))
      | inr rose ↦ inr (inl rose)
    ]
told_of words told files before after reply tells (no_memory name names counts is) = inr (inr is)

-- a count that stays doesn't rise
not_both : (before after : ℕ) → Stays before after → Rises before after → ⊥
not_both before after stays (inl more) = omega (arith, stays.same)
not_both before after stays (inr end) = omega (arith, stays.counts)

-- ---- how a reply was delivered

-- with a status that isn't WriteFault the text was delivered whole, with the status that belongs to it
given_is : (wanted s given : Status) (text : List ℕ) (out err : Stream) → s ≢ status.WriteFault → IsDelivery wanted text out err given → given ≡ s → (wanted ≡ s) × Gets text (cond (goes_out s) out err) × IsUntouched (cond (goes_out s) err out)
given_is wanted s given text out err whole delivery is =
    elim delivery.mine [
      | inl p ↦ let same : wanted ≡ s = sym p.0 ∙ is in (same, rw same at p.1, rw same at delivery.other)
      | inr p ↦ absurd (whole (sym is ∙ p.0))
    ]

-- the status is the one that belongs to the reply, or WriteFault
given_or_fault : (wanted s given : Status) (text : List ℕ) (out err : Stream) → IsDelivery wanted text out err given → wanted ≡ s → (given ≡ s) ⊎ (given ≡ status.WriteFault)
given_or_fault wanted s given text out err delivery is = elim delivery.mine [ inl p ↦ inl (p.0 ∙ is) | inr p ↦ inr p.0 ]

-- with WriteFault a write was cut short, where the reply has another status
cut_is : (wanted given : Status) (text : List ℕ) (out err : Stream) → wanted ≢ status.WriteFault → IsDelivery wanted text out err given → given ≡ status.WriteFault → IsCut text (cond (goes_out wanted) out err) × IsUntouched (cond (goes_out wanted) err out)
cut_is wanted given text out err other delivery is =
    elim delivery.mine [ inl p ↦ absurd (other (sym p.0 ∙ is)) | inr p ↦ (p.1, delivery.other) ]

-- a file that is read gets a report or a refusal
status_for : (o : Option System) → ((reply_for o).status ≡ status.Ok) ⊎ ((reply_for o).status ≡ status.Refused)
status_for None = inr refl
status_for (Some system) = inl refl

-- no reply has WriteFault
file_whole : (name : List ℕ) (told : Option Files) (before after : ℕ) (reply : Reply) → IsFileReply name told before after reply → reply.status ≢ status.WriteFault
file_whole name told before after reply (loaded bytes read fits same is) = λ fault.
    elim (status_for (system_of bytes)) [ inl ok ↦ cc (ap (λ r. r.status) is) | inr refused ↦ cc (ap (λ r. r.status) is) ]
file_whole name told before after reply (longer over same is) = λ fault. cc (ap (λ r. r.status) is)
file_whole name told before after reply (not_loaded why counts is) = λ fault. cc (ap (λ r. r.status) is)

-- the same of the reply to the words
whole : (words : List (List ℕ)) (told : Option Files) (before after : ℕ) (reply : Reply) → IsReply words told before after reply → reply.status ≢ status.WriteFault
whole words told before after reply (wrong_words none same is) = λ fault. cc (ap (λ r. r.status) is)
whole words told before after reply (of_file name names cause) = file_whole name told before after reply cause
whole words told before after reply (no_memory name names counts is) = λ fault. cc (ap (λ r. r.status) is)

-- ---- the headline

-- what the streams tell, where none of them had a fault
all_told : (b : Bool) (text : List ℕ) (out err : Stream) → Gets text (cond b out err) → IsUntouched (cond b err out) → (out.after ≡ bytes_after out.before (cond b text [])) × (err.after ≡ bytes_after err.before (cond b [] text))
all_told true text out err gets other = (gets.all, other.same ∙ sym (bytes_after-nil err.before))
all_told false text out err gets other = (other.same ∙ sym (bytes_after-nil out.before), gets.all)

-- a write that was cut short had a fault
cut_rises : (b : Bool) (text : List ℕ) (out err : Stream) → Stays out.faults_before out.faults_after → Stays err.faults_before err.faults_after → IsCut text (cond b out err) → ⊥
cut_rises true text out err quiet silent cut = not_both _ _ quiet cut.rises
cut_rises false text out err quiet silent cut = not_both _ _ silent cut.rises

-- without a fault of a stream the text was delivered whole
no_fault : (wanted given : Status) (text : List ℕ) (out err : Stream) → IsDelivery wanted text out err given → Stays out.faults_before out.faults_after → Stays err.faults_before err.faults_after → (given ≡ wanted) × Gets text (cond (goes_out wanted) out err) × IsUntouched (cond (goes_out wanted) err out)
no_fault wanted given text out err delivery quiet silent =
    elim delivery.mine [
      | inl p ↦ (p.0, p.1, delivery.other)
      | inr p ↦ absurd (cut_rises (goes_out wanted) text out err quiet silent p.1)
    ]

-- a reply with its cause, delivered without a fault, is the answer
pub serial_of : (call : Call) → IsDone call → IsSerial call
serial_of call done files out err tells told_out told_err stays quiet silent lasted =
    let reply = done.0 in
    let sent = no_fault reply.status call.status reply.text call.out call.err done.2 quiet silent in
    elim (told_of call.words call.told files call.faults_before call.faults_after reply tells done.1) [
      | inl is ↦
          let text = all_told (goes_out reply.status) reply.text call.out call.err sent.1 sent.2 in
          rw (← is) (record {
            status_is = sent.0;
            out_is = text.0 ∙ ap (λ told. bytes_after told (out_text reply)) told_out;
            err_is = text.1 ∙ ap (λ told. bytes_after told (err_text reply)) told_err;
          })
      | inr (inl rose) ↦ absurd (not_both _ _ stays rose.1)
      | inr (inr memory) ↦ absurd (lasted (sent.0 ∙ ap (λ r. r.status) memory))
    ]

-- ---- what brings each status

-- Ok: the file was read
ok_cause : (words : List (List ℕ)) (told : Option Files) (before after : ℕ) (reply : Reply) → IsReply words told before after reply → reply.status ≡ status.Ok → (name bytes : List ℕ) × (file_to_run words ≡ Some name) × IfSome told (IsLoaded name bytes) × (reply ≡ reply_for (system_of bytes)) × (after ≡ before)
ok_cause words told before after reply (wrong_words none same is) ok = cc (ap (λ r. r.status) is)
ok_cause words told before after reply (of_file name names (loaded bytes read fits same is)) ok = (name, bytes, names, read, is, same)
ok_cause words told before after reply (of_file name names (longer over same is)) ok = cc (ap (λ r. r.status) is)
ok_cause words told before after reply (of_file name names (not_loaded why counts is)) ok = cc (ap (λ r. r.status) is)
ok_cause words told before after reply (no_memory name names counts is) ok = cc (ap (λ r. r.status) is)

-- Usage: the words are no command
usage_cause : (words : List (List ℕ)) (told : Option Files) (before after : ℕ) (reply : Reply) → IsReply words told before after reply → reply.status ≡ status.Usage → file_to_run words ≡ None
usage_cause words told before after reply (wrong_words none same is) of_usage = none
usage_cause words told before after reply (of_file name names (loaded bytes read fits same is)) of_usage =
    elim (status_for (system_of bytes)) [ inl ok ↦ cc (ap (λ r. r.status) is) | inr refused ↦ cc (ap (λ r. r.status) is) ]
usage_cause words told before after reply (of_file name names (longer over same is)) of_usage = cc (ap (λ r. r.status) is)
usage_cause words told before after reply (of_file name names (not_loaded why counts is)) of_usage = cc (ap (λ r. r.status) is)
usage_cause words told before after reply (no_memory name names counts is) of_usage = cc (ap (λ r. r.status) is)

-- and where they are none, the reply is Usage
none_cause : (words : List (List ℕ)) (told : Option Files) (before after : ℕ) (reply : Reply) → IsReply words told before after reply → file_to_run words ≡ None → reply.status ≡ status.Usage
none_cause words told before after reply (wrong_words none same is) no_file = ap (λ r. r.status) is
none_cause words told before after reply (of_file name names cause) no_file = cc
none_cause words told before after reply (no_memory name names counts is) no_file = cc

-- Refused: no load failed
quiet_cause : (words : List (List ℕ)) (told : Option Files) (before after : ℕ) (reply : Reply) → IsReply words told before after reply → reply.status ≡ status.Refused → after ≡ before
quiet_cause words told before after reply (wrong_words none same is) refused = same
quiet_cause words told before after reply (of_file name names (loaded bytes read fits same is)) refused = same
quiet_cause words told before after reply (of_file name names (longer over same is)) refused = same
quiet_cause words told before after reply (of_file name names (not_loaded why counts is)) refused = cc (ap (λ r. r.status) is)
quiet_cause words told before after reply (no_memory name names counts is) refused = cc (ap (λ r. r.status) is)

-- and the answer is a refusal
refused_cause : (words : List (List ℕ)) (told : Option Files) (files : Files) (before after : ℕ) (reply : Reply) → told ≡ Some files → IsReply words told before after reply → reply.status ≡ status.Refused → (answer words files).status ≡ status.Refused
refused_cause words told files before after reply tells cause refused =
    elim (told_of words told files before after reply tells cause) [
      | inl is ↦ ap (λ r. r.status) (sym is) ∙ refused
      | inr (inl rose) ↦ let other = rose.0 in cc
      | inr (inr memory) ↦ cc (ap (λ r. r.status) memory)
    ]

-- ReadFault: the load of the named file failed
read_fault_cause : (words : List (List ℕ)) (told : Option Files) (before after : ℕ) (reply : Reply) → IsReply words told before after reply → reply.status ≡ status.ReadFault → (name : List ℕ) × (file_to_run words ≡ Some name) × (Rises before after ⊎ IsMissing name told) × (reply ≡ unread_reply name)
read_fault_cause words told before after reply (wrong_words none same is) fault = cc (ap (λ r. r.status) is)
read_fault_cause words told before after reply (of_file name names (loaded bytes read fits same is)) fault =
    elim (status_for (system_of bytes)) [ inl ok ↦ cc (ap (λ r. r.status) is) | inr refused ↦ cc (ap (λ r. r.status) is) ]
read_fault_cause words told before after reply (of_file name names (longer over same is)) fault = cc (ap (λ r. r.status) is)
read_fault_cause words told before after reply (of_file name names (not_loaded why counts is)) fault = (name, names, why, is)
read_fault_cause words told before after reply (no_memory name names counts is) fault = cc (ap (λ r. r.status) is)

-- where the count of the shelf is greater at the end, a load failed
rise_cause : (words : List (List ℕ)) (told : Option Files) (before after : ℕ) (reply : Reply) → IsReply words told before after reply → before < after → (reply.status ≡ status.ReadFault) ⊎ (reply.status ≡ status.Memory)
rise_cause words told before after reply (wrong_words none same is) more = absurd (omega arith)
rise_cause words told before after reply (of_file name names (loaded bytes read fits same is)) more = absurd (omega arith)
rise_cause words told before after reply (of_file name names (longer over same is)) more = absurd (omega arith)
rise_cause words told before after reply (of_file name names (not_loaded why counts is)) more = inl (ap (λ r. r.status) is)
rise_cause words told before after reply (no_memory name names counts is) more = inr (ap (λ r. r.status) is)

-- Memory: there is no text
memory_cause : (words : List (List ℕ)) (told : Option Files) (before after : ℕ) (reply : Reply) → IsReply words told before after reply → reply.status ≡ status.Memory → reply.text ≡ []
memory_cause words told before after reply (wrong_words none same is) memory = cc (ap (λ r. r.status) is)
memory_cause words told before after reply (of_file name names (loaded bytes read fits same is)) memory =
    elim (status_for (system_of bytes)) [ inl ok ↦ cc (ap (λ r. r.status) is) | inr refused ↦ cc (ap (λ r. r.status) is) ]
memory_cause words told before after reply (of_file name names (longer over same is)) memory = cc (ap (λ r. r.status) is)
memory_cause words told before after reply (of_file name names (not_loaded why counts is)) memory = cc (ap (λ r. r.status) is)
memory_cause words told before after reply (no_memory name names counts is) memory = ap (λ r. r.text) is

-- where nothing was written, a stream is as before
got_nothing : (text : List ℕ) (stream : Stream) → text ≡ [] → Gets text stream → IsUntouched stream
got_nothing text stream none gets = record { same = gets.all ∙ ap (bytes_after stream.before) none ∙ bytes_after-nil stream.before; quiet = gets.quiet }

-- where a stream had a fault, a write was cut short
fault_cut : (b : Bool) (text : List ℕ) (out err : Stream) → (out.faults_before < out.faults_after) ⊎ (err.faults_before < err.faults_after) → Gets text (cond b out err) → IsUntouched (cond b err out) → ⊥
fault_cut true text out err (inl more) gets other = omega (arith, gets.quiet)
fault_cut true text out err (inr more) gets other = omega (arith, other.quiet)
fault_cut false text out err (inl more) gets other = omega (arith, other.quiet)
fault_cut false text out err (inr more) gets other = omega (arith, gets.quiet)

-- a refusal comes where the answer is one, but where a load failed, a write failed or memory ran out
refused_or_fault : (call : Call) (files : Files) (reply : Reply) → call.told ≡ Some files → IsReply call.words call.told call.faults_before call.faults_after reply → IsDelivery reply.status reply.text call.out call.err call.status → (answer call.words files).status ≡ status.Refused → (call.status ≡ status.Refused) ⊎ IsUnderFault call
refused_or_fault call files reply tells cause delivery refuses =
    elim (told_of call.words call.told files call.faults_before call.faults_after reply tells cause) [
      | inl is ↦
          elim (given_or_fault reply.status status.Refused call.status reply.text call.out call.err delivery (ap (λ r. r.status) is ∙ refuses)) [
            | inl same ↦ inl same
            | inr fault ↦ inr (inr (inl fault))
          ]
      | inr (inl rose) ↦
          elim (given_or_fault reply.status status.ReadFault call.status reply.text call.out call.err delivery rose.0) [
            | inl same ↦ inr (inl (same, rose.1))
            | inr fault ↦ inr (inr (inl fault))
          ]
      | inr (inr memory) ↦
          elim (given_or_fault reply.status status.Memory call.status reply.text call.out call.err delivery (ap (λ r. r.status) memory)) [
            | inl same ↦ inr (inr (inr same))
            | inr fault ↦ inr (inr (inl fault))
          ]
    ]

-- a reply that was cut short has a text, so that it isn't the one to want of memory
cut_told : (words : List (List ℕ)) (told : Option Files) (files : Files) (before after : ℕ) (reply : Reply) (stream : Stream) → told ≡ Some files → IsReply words told before after reply → IsCut reply.text stream → (reply ≡ answer words files) ⊎ ((reply.status ≡ status.ReadFault) × Rises before after)
cut_told words told files before after reply stream tells cause cut =
    elim (told_of words told files before after reply tells cause) [
      | inl is ↦ inl is
      | inr (inl rose) ↦ inr rose
      | inr (inr memory) ↦ let none : length reply.text ≡ 0 = ap (λ r. length r.text) memory in absurd (omega (arith, cut.proper))
    ]

-- the causes of every status
pub causes_of : (call : Call) → IsDone call → HasCauses call
causes_of call done =
    let reply = done.0 in
    let cause = done.1 in
    let delivery = done.2 in
    let words = call.words in
    let before = call.faults_before in
    let after = call.faults_after in
    record {
      ok = λ is.
          let sent = given_is reply.status status.Ok call.status reply.text call.out call.err (λ e. cc) delivery is in
          let from = ok_cause words call.told before after reply cause sent.0 in
          (from.0, from.1, from.2, from.3, rw (← from.4) sent.0, rw (← from.4) sent.1, sent.2, from.5);
      usage = λ is. usage_cause words call.told before after reply cause (given_is reply.status status.Usage call.status reply.text call.out call.err (λ e. cc) delivery is).0;
      usage_comes = λ none. given_or_fault reply.status status.Usage call.status reply.text call.out call.err delivery (none_cause words call.told before after reply cause none);
      refusal = λ is.
          let sent = given_is reply.status status.Refused call.status reply.text call.out call.err (λ e. cc) delivery is in
          (quiet_cause words call.told before after reply cause sent.0, λ files tells. refused_cause words call.told files before after reply tells cause sent.0);
      refusal_comes = λ files tells refuses. refused_or_fault call files reply tells cause delivery refuses;
      read_fault = λ is.
          let sent = given_is reply.status status.ReadFault call.status reply.text call.out call.err (λ e. cc) delivery is in
          let from = read_fault_cause words call.told before after reply cause sent.0 in
          (from.0, from.1, from.2, rw (ap (λ r. r.text) from.3) at sent.1, sent.2);
      read_fault_comes = λ more. elim (rise_cause words call.told before after reply cause more) [
        | inl fault ↦ elim (given_or_fault reply.status status.ReadFault call.status reply.text call.out call.err delivery fault) [ inl same ↦ inl same | inr cut ↦ inr (inl cut) ]
        | inr memory ↦ elim (given_or_fault reply.status status.Memory call.status reply.text call.out call.err delivery memory) [ inl same ↦ inr (inr same) | inr cut ↦ inr (inl cut) ]
      ];
      write_fault = λ is.
          let cut = cut_is reply.status call.status reply.text call.out call.err (whole words call.told before after reply cause) delivery is in
          (reply, cause, cut.0, cut.1, λ files tells. cut_told words call.told files before after reply (cond (goes_out reply.status) call.out call.err) tells cause cut.0);
      write_fault_comes = λ more. elim delivery.mine [
        | inl p ↦ absurd (fault_cut (goes_out reply.status) reply.text call.out call.err more p.1 delivery.other)
        | inr p ↦ p.0
      ];
      memory = λ is.
          let sent = given_is reply.status status.Memory call.status reply.text call.out call.err (λ e. cc) delivery is in
          (sent.2, got_nothing reply.text call.err (memory_cause words call.told before after reply cause sent.0) sent.1);
    }
