use Rattle.std.proofs.Common.{◌≡◌, ◌++◌, ◌∷◌, [], List, ℕ, None, Vec, Global, length, ap, subst, sym, ◌∙◌, arith, rules}
use Rattle.std.proofs.lemmas.Grind.{common_steps}
use Rattle.std.specs.Map.{lookup}
use Rattle.std.specs.Str.{bytes_eq}
use Rattle.indexmap.proofs.CallerLemmas.{insert_entry-new}
use Rattle.cpl_config.specs.declared.entry.Entry.{Entry}
use Rattle.cpl_config.specs.Items.{table_in, table_entry, table_under}
use Rattle.cpl_config.proofs.KeptFacts.{IsKept-table, lookup-missing}
use Rattle.cpl_config.proofs.items.Items.add_table.Goals as goal

pub invariant_of-self-2 : goal.invariant_of-self-2
invariant_of-self-2 c =
    let inside = c.self.inside in
    let key = c.in_ok-key.key in
    let bytes : key.items ≡ c.args.label = c.in_ok-key.ensures.items ∙ c.bytes.ensures in
    let P : List Entry → Type 0 = λ entries. table_under c.args.label entries ≡ None in
    let fresh : P inside.entries.items = subst P (sym c.self.view_is) c.requires.fresh in
    let Q : List ℕ → Type 0 = λ label. lookup (λ (k : Vec ℕ Global). bytes_eq label k.items) inside.tables.entries ≡ None in
    let absent : Q key.items = subst Q (sym bytes) (lookup-missing table_in c.args.label inside.entries.items inside.tables.entries c.self.invariant.tables_are fresh) in
    let placed : c.len.result ≡ length inside.entries.items = grind (arith, common_steps) in
    let grown : c.insert.new.self.entries ≡ inside.tables.entries ++ (key, length inside.entries.items) ∷ [] =
    c.in_ok-insert.ensures.entries ∙ insert_entry-new (λ (x y : Vec ℕ Global). bytes_eq x.items y.items) inside.tables key c.len.result absent
    ∙ ap (λ n. inside.tables.entries ++ (key, n) ∷ []) placed in
    let pushed : c.push.new.self.items ≡ inside.entries.items ++ table_entry c.args.label c.args.table ∷ [] = search rules in
    rw pushed (IsKept-table inside.entries.items inside.values.entries inside.tables.entries c.insert.new.self.entries key c.args.label c.args.table c.self.invariant grown bytes c.requires.short)
