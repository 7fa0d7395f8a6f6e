-- What holds of that which rules and rows may name.
use Rattle.std.specs.Prelude.{◌≡◌, ℕ, ◌<◌, ◌≤◌, ◌^◌, List, length}
use Rattle.std.specs.List.{join_with_byte}
use Rattle.cpl_comp.specs.RowForms.{RowForm, assign, add}
use Rattle.cpl_comp.specs.PhaseRows.{PhaseScope}
use Rattle.cpl_comp.specs.Rules.{Scope}

-- There are few enough fields, alarms and entries for their places to be numbers of 16 bits.
pub record IsScope (scope : Scope) : Type 0 where
  pub fields : length scope.fields < 2 ^ 16
  pub alarms : length scope.alarms < 2 ^ 16
  pub signs : length scope.signs < 2 ^ 16

-- Each field has a role, and there are at most 64.
pub record IsPhaseScope (scope : PhaseScope) : Type 0 where
  pub rules : IsScope scope.rules
  pub roles : length scope.roles ≡ length scope.rules.fields
  pub few : length scope.roles ≤ 64

-- words, joined by single blanks, have fewer than 2^32 bytes
abbrev pub AreShort : List (List ℕ) → Type 0
AreShort words = length (join_with_byte 32 words) < 2 ^ 32

-- so have the words of a row's rule, if it has one
abbrev pub HasShortWords : RowForm → Type 0
HasShortWords (assign field words) = AreShort words
HasShortWords (add field words) = AreShort words
HasShortWords form = Unit {0}
