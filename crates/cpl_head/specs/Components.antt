-- The list of components in a resource file.
use Rattle.std.specs.Prelude.{◌≡◌, ℕ, ◌≤◌, true, ◌&&◌, nat_le, List, length, Result, Ok}
use Rattle.std.specs.List.{list_all}
use Rattle.cpl_base.specs.ResultChain.{◌>>=◌, ok_if}
use Rattle.cpl_base.specs.Words.{are_distinct, is_name, is_some_of}
use Rattle.cpl_config.specs.declared.row.Row.{Row}
use Rattle.cpl_head.specs.declared.fault.HeadFault.{HeadFault}
use Rattle.cpl_head.specs.declared.fault.HeadFault.TheVariants.{BadValue, TooManyComponents}

-- the components that a list names: one or more names, each once, at most 32
abbrev pub components_in : Row → Result (List (List ℕ)) HeadFault
components_in row =
    ok_if (is_some_of row.words && list_all is_name row.words) (BadValue row.line) >>= (λ _.
    ok_if (are_distinct row.words) (BadValue row.line) >>= (λ _.
    ok_if (nat_le (length row.words) 32) (TooManyComponents (length row.words)) >>= (λ _.
    Ok row.words)))

-- One to 32 names, each once.
pub record AreComponents (names : List (List ℕ)) : Type 0 where
  pub some : 1 ≤ length names
  pub few : length names ≤ 32
  pub named : list_all is_name names ≡ true
  pub distinct : are_distinct names ≡ true
