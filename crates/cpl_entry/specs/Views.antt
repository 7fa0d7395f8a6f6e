-- What contracts see of an entry.
use Rattle.cpl_entry.specs.Entries.{NativeEntry}
use Rattle.cpl_entry.specs.declared.entry.Entry.{Entry}

-- an entry without its closure
abbrev pub entry_of : {X : Type 0} {F : X → Type 0} {g : _} → Entry X F g → NativeEntry
entry_of entry = record { label = entry.label; inputs = entry.inputs; formula = entry.formula }
