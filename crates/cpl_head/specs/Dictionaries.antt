-- The field dictionary by the rows of its table, one after another.
use Rattle.std.specs.Prelude.{ℕ, Bool, not, ◌&&◌, if◌then◌else◌, nat_le, List, [], ◌∷◌, length, codes, Result, Ok, Err}
use Rattle.std.specs.List.{list_all}
use Rattle.std.specs.Result.{result_map_both}
use Rattle.std.specs.Str.{bytes_eq}
use Rattle.cpl_base.specs.ResultChain.{◌>>=◌, ok_if}
use Rattle.cpl_config.specs.declared.entry.Entry.{Entry}
use Rattle.cpl_config.specs.declared.row.Row.{Row}
use Rattle.cpl_dict.specs.Dict.{Dictionary, with_name, with_synonyms}
use Rattle.cpl_dict.specs.declared.fault.DictFault.{DictFault}
use Rattle.cpl_dict.specs.declared.fault.DictFault.TheVariants as dictionary
use Rattle.cpl_head.specs.Tables.{rows_under}
use Rattle.cpl_head.specs.declared.fault.TableFault.{TableFault}
use Rattle.cpl_head.specs.declared.fault.TableFault.TheVariants.{BadValue, Memory, NameTwice, NameUnknown, UnitsDiffer}

-- the word in front of names that stand for one another
abbrev pub is_synonym : List ℕ → Bool
is_synonym word = bytes_eq word (codes "synonym")

-- a standard name: a word of at most 64 bytes, and not `synonym`
abbrev pub is_standard_name : List ℕ → Bool
is_standard_name word = nat_le (length word) 64 && not (is_synonym word)

-- why the dictionary refuses the row in a line
abbrev pub dict_fault : ℕ → DictFault → TableFault
dict_fault line dictionary.NameTwice = NameTwice line
dict_fault line dictionary.NameUnknown = NameUnknown line
dict_fault line dictionary.UnitsDiffer = UnitsDiffer line
dict_fault line dictionary.Memory = Memory

-- the dictionary that a call gives for the row in a line, or why there is none
abbrev pub dictionary_in_line : ℕ → Result Dictionary DictFault → Result Dictionary TableFault
dictionary_in_line line made = result_map_both (λ dict. dict) (dict_fault line) made

-- the dictionary with the name and the units that are all the words of a row
abbrev pub with_name_row : Dictionary → ℕ → List (List ℕ) → Result Dictionary TableFault
with_name_row dict line (name ∷ units ∷ []) =
    ok_if (is_standard_name name) (BadValue line) >>= (λ _. dictionary_in_line line (with_name dict name units))
with_name_row dict line words = Err (BadValue line)

-- the dictionary with two or more names that stand for one another
abbrev pub with_synonym_row : Dictionary → ℕ → List (List ℕ) → Result Dictionary TableFault
with_synonym_row dict line names =
    ok_if (nat_le 2 (length names) && list_all is_standard_name names) (BadValue line) >>= (λ _.
    dictionary_in_line line (with_synonyms dict names))

-- the dictionary with what the words of a row say: `synonym a b ..` or `name units`
abbrev pub with_words : Dictionary → ℕ → List (List ℕ) → Result Dictionary TableFault
with_words dict line [] = Err (BadValue line)
with_words dict line (word ∷ words) =
    if is_synonym word then with_synonym_row dict line words else with_name_row dict line (word ∷ words)

-- the dictionary with further rows, or the first fault
abbrev pub with_rows : Dictionary → List Row → Result Dictionary TableFault
with_rows dict [] = Ok dict
with_rows dict (row ∷ rows) = with_words dict row.line row.words >>= (λ more. with_rows more rows)

-- a dictionary without names
abbrev pub empty_dictionary : Dictionary
empty_dictionary = record { names = []; calls = [] }

-- the dictionary of a file, or the first fault
unfoldable pub dictionary_of : List Entry → Result Dictionary TableFault
dictionary_of entries = with_rows empty_dictionary (rows_under (codes "dictionary") entries)
