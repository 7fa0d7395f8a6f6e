-- What contracts see of a book.
use Rattle.std.specs.Prelude.{List, map}
use Rattle.cpl_entry.specs.Entries.{NativeEntry}
use Rattle.cpl_entry.specs.Views.{entry_of}
use Rattle.cpl_entry.specs.declared.book.EntryBook.{EntryBook}

-- the entries of a book, in their order, without their closures
abbrev pub entries_of : {X : Type 0} {F : X → Type 0} {g : _} → EntryBook X F g → List NativeEntry
entries_of book = map entry_of book.entries.items
