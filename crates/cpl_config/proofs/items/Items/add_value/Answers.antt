use Rattle.std.proofs.Common.{◌≡◌, ◌++◌, ◌∷◌, [], List, ℕ, None, Vec, Global, length, ap, subst, sym, ◌∙◌, arith, rules}
use Rattle.std.proofs.lemmas.Grind.{common_steps}
use Rattle.std.specs.Map.{lookup}
use Rattle.std.specs.Str.{bytes_eq}
use Rattle.indexmap.proofs.CallerLemmas.{insert_entry-new}
use Rattle.cpl_config.specs.declared.entry.Entry.{Entry}
use Rattle.cpl_config.specs.Items.{row_in, value_entry, value_under}
use Rattle.cpl_config.proofs.KeptFacts.{IsKept-value, lookup-missing}
use Rattle.cpl_config.proofs.items.Items.add_value.Goals as goal

pub invariant_of-self-2 : goal.invariant_of-self-2
invariant_of-self-2 c =
    let inside = c.self.inside in
    let key = c.in_ok-key.key in
    let bytes : key.items ≡ c.args.label = c.in_ok-key.ensures.items ∙ c.bytes.ensures in
    let P : List Entry → Type 0 = λ entries. value_under c.args.label entries ≡ None in
    let fresh : P inside.entries.items = subst P (sym c.self.view_is) c.requires.fresh in
    let Q : List ℕ → Type 0 = λ label. lookup (λ (k : Vec ℕ Global). bytes_eq label k.items) inside.values.entries ≡ None in
    let absent : Q key.items = subst Q (sym bytes) (lookup-missing row_in c.args.label inside.entries.items inside.values.entries c.self.invariant.values_are fresh) in
    let placed : c.len.result ≡ length inside.entries.items = grind (arith, common_steps) in
    let grown : c.insert.new.self.entries ≡ inside.values.entries ++ (key, length inside.entries.items) ∷ [] =
    c.in_ok-insert.ensures.entries ∙ insert_entry-new (λ (x y : Vec ℕ Global). bytes_eq x.items y.items) inside.values key c.len.result absent
    ∙ ap (λ n. inside.values.entries ++ (key, n) ∷ []) placed in
    let pushed : c.push.new.self.items ≡ inside.entries.items ++ value_entry c.args.label c.args.row ∷ [] = search rules in
    rw pushed (IsKept-value inside.entries.items inside.values.entries inside.tables.entries c.insert.new.self.entries key c.args.label c.args.row c.self.invariant grown bytes c.requires.short)
