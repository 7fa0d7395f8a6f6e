-- What a shelf and a sink in memory hold.
use Rattle.std.specs.Prelude.{◌≡◌, ℕ, ◌<◌, ◌≤◌, List, length, Option, Some, None, Result, Ok, Err, option_map}
use Rattle.std.specs.declared.alloc.Global.{Global}
use Rattle.std.specs.declared.vec.Vec.{Vec}
use Rattle.std.specs.BTreeMap.{get_by_text}
use Rattle.cpl_base.specs.declared.shelf.LoadFault.{LoadFault}
use Rattle.cpl_base.specs.declared.shelf.LoadFault.TheVariants.{Failed, Memory, TooLong}
use Rattle.cpl_base.specs.declared.mem_shelf.MemShelf.{MemShelf}
use Rattle.cpl_base.specs.declared.mem_sink.MemSink.{MemSink}

-- the bytes of the file of that name
abbrev pub held_at : MemShelf → List ℕ → Option (List ℕ)
held_at shelf name = option_map (λ bytes. bytes.items) (get_by_text shelf.held name)

-- the number of the load that is to fail, if one is
abbrev pub failing_load : MemShelf → Option ℕ
failing_load shelf = shelf.failing

-- how many loads there were; the number ends at the end of its type
abbrev pub loads_of : MemShelf → ℕ
loads_of shelf = shelf.loads

-- how many faults it had
abbrev pub faults_of : MemShelf → ℕ
faults_of shelf = shelf.faults

-- What a load answers that isn't to fail: by what the name holds, unless memory ran out.
abbrev pub Answers : Option (List ℕ) → ℕ → Result (Vec ℕ Global) LoadFault → Type 0
Answers held limit (Ok bytes) = (held ≡ Some bytes.items) × (length bytes.items ≤ limit)
Answers held limit (Err Failed) = held ≡ None
Answers held limit (Err TooLong) = (bytes : List ℕ) × (held ≡ Some bytes) × (limit < length bytes)
Answers held limit (Err Memory) = (bytes : List ℕ) × (held ≡ Some bytes) × (length bytes ≤ limit)

-- the bytes that a sink got
abbrev pub bytes_of : MemSink → List ℕ
bytes_of sink = sink.held.items

-- how many bytes it takes in all
abbrev pub room_of : MemSink → ℕ
room_of sink = sink.room

-- how many faults it had
abbrev pub sink_faults_of : MemSink → ℕ
sink_faults_of sink = sink.faults
