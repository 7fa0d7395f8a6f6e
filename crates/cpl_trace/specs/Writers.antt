-- What the code keeps of its CSV writer, which writes bytes to memory.
use Rattle.std.specs.Prelude.{◌≡◌, ℕ, false, ◌<◌, List, ◌++◌, length, All, Vec}
use Rattle.std.specs.declared.alloc.Global.{Global}
use Rattle.std.specs.List.{list_any}
use Rattle.csv.specs.Writing.{default_writer, fields_written, has_written, needs_byte, writer_pending, writer_setup, writer_under}
use Rattle.csv.specs.declared.writer.Writer.{Writer}

-- a writer between two lines, with the usual settings
pub record IsReady (writer : Writer (Vec ℕ Global)) : Type 0 where
  pub setup : writer_setup writer ≡ default_writer
  pub fields : fields_written writer ≡ 0
  pub fresh : has_written writer ≡ false

-- all that was written
abbrev pub text_of : Writer (Vec ℕ Global) → List ℕ
text_of writer = (writer_under writer).items ++ writer_pending writer

-- columns, two or more, without a byte that calls for quotes
pub record ArePlain (columns : List (List ℕ)) : Type 0 where
  pub some : 1 < length columns
  pub plain : All (λ column. list_any (needs_byte default_writer) column ≡ false) columns
