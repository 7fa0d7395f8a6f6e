-- What a run has to answer: its status, and the texts that it writes.
use Rattle.std.specs.Prelude.{ℕ, ℤ, pos, ◌+ℤ◌, Bool, false, not, ◌&&◌, ◌==◌, if◌then◌else◌, nat_lt, List, [], ◌∷◌, ◌++◌, length, fold, codes, decimal, Option, Some, None}
use Rattle.std.specs.Int.{int_min, int_max}
use Rattle.std.specs.Str.{bytes_eq}
use Rattle.cpl_base.specs.Numerals.{value_text}
use Rattle.cpl_base.specs.Outside.{Files}
use Rattle.cpl_driver.specs.Files.{system_of}
use Rattle.cpl_driver.specs.Runs.{World, operations, final_world}
use Rattle.cpl_driver.specs.declared.status.Status.{Status}
use Rattle.cpl_driver.specs.declared.status.Status.TheVariants as status
use Rattle.cpl_driver.specs.declared.system.System.{System}

-- ---- the words of a command

-- a file's name isn't empty and doesn't begin with `-`
abbrev pub is_file_word : List ℕ → Bool
is_file_word [] = false
is_file_word (c ∷ cs) = not (c == 45)

-- the file to run, where the words are `run FILE`
abbrev pub file_to_run : List (List ℕ) → Option (List ℕ)
file_to_run [] = None
file_to_run (command ∷ []) = None
file_to_run (command ∷ file ∷ []) = if bytes_eq command (codes "run") && is_file_word file then Some file else None
file_to_run (command ∷ file ∷ other ∷ more) = None

-- ---- texts

-- each line that is written ends in a line feed
abbrev pub end_of_line : List ℕ
end_of_line = 10 ∷ []

-- the line on words that are no command
abbrev pub usage_line : List ℕ
usage_line = codes "usage: esmcouple run CONF [--workers N] [--trace] | serial CONF [--trace] | check CONF | plan CONF | demo SEED [--workers N]" ++ end_of_line

-- the line on a file that could not be read
abbrev pub read_fault_line : List ℕ → List ℕ
read_fault_line name = codes "read fault " ++ name ++ end_of_line

-- the refusal of a file that is too long
abbrev pub too_long_line : List ℕ → List ℕ
too_long_line name = codes "refused 1 TooLong " ++ name ++ end_of_line

-- the refusal of a file whose form is not built yet
abbrev pub not_yet_built_line : List ℕ
not_yet_built_line = codes "refused 62 NotYetBuilt 1" ++ end_of_line

-- the least of the values, the greatest and the sum
abbrev pub least_of : List ℤ → ℤ
least_of [] = pos 0
least_of (x ∷ xs) = fold int_min x xs

-- the greatest of the values
abbrev pub greatest_of : List ℤ → ℤ
greatest_of [] = pos 0
greatest_of (x ∷ xs) = fold int_max x xs

-- their sum, which is exact
abbrev pub total_of : List ℤ → ℤ
total_of [] = pos 0
total_of (x ∷ xs) = fold ◌+ℤ◌ x xs

-- how many operations there were
abbrev pub operations_line : ℕ → List ℕ
operations_line count = codes "operations " ++ decimal count ++ end_of_line

-- how often a component ran, and its clock
abbrev pub component_line : List ℕ → ℕ → ℕ → List ℕ
component_line name runs clock = codes "component " ++ name ++ codes " runs " ++ decimal runs ++ codes " clock " ++ decimal clock ++ end_of_line

-- the least, the greatest and the sum of a variable over its cells
abbrev pub variable_line : List ℕ → List ℤ → List ℕ
variable_line name cells =
    codes "var " ++ name ++ codes " min " ++ value_text (least_of cells) ++ codes " max " ++ value_text (greatest_of cells) ++ codes " sum " ++ value_text (total_of cells) ++ end_of_line

-- what a run of a system leaves, as a text
unfoldable pub report : System → ℕ → World → List ℕ
report system count world =
    operations_line count ++ component_line system.component world.runs world.clock
    ++ variable_line system.field world.cells ++ codes "end ok\n"

-- ---- answers

-- a status, and the text that goes with it: to standard output where the status is Ok, else to
-- standard error
pub record Reply : Type 0 where
  pub status : Status
  pub text : List ℕ

-- a resource file has so many bytes at the most: 4 MiB
abbrev pub most_bytes : ℕ
most_bytes = 4194304

-- the reply to words that are no command
abbrev pub usage_reply : Reply
usage_reply = record { status = status.Usage; text = usage_line }

-- the reply to a file that could not be read
abbrev pub unread_reply : List ℕ → Reply
unread_reply name = record { status = status.ReadFault; text = read_fault_line name }

-- the reply to a file that is too long
abbrev pub too_long_reply : List ℕ → Reply
too_long_reply name = record { status = status.Refused; text = too_long_line name }

-- the reply to a file that is read: the serial run of the system that it describes, or a refusal
abbrev pub reply_for : Option System → Reply
reply_for None = record { status = status.Refused; text = not_yet_built_line }
reply_for (Some system) = record { status = status.Ok; text = report system (length (operations system)) (final_world system) }

-- the reply to a file of this name, with what it holds, if it is there
abbrev pub reply_to : List ℕ → Option (List ℕ) → Reply
reply_to name None = unread_reply name
reply_to name (Some bytes) = if nat_lt most_bytes (length bytes) then too_long_reply name else reply_for (system_of bytes)

-- the reply to a file to run, if the words name one
abbrev pub reply_with : Files → Option (List ℕ) → Reply
reply_with files None = usage_reply
reply_with files (Some name) = reply_to name (files name)

-- what the words ask for, over these files
unfoldable pub answer : List (List ℕ) → Files → Reply
answer words files = reply_with files (file_to_run words)
