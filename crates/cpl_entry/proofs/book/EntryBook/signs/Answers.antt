use Rattle.std.proofs.Common.{List, ℕ, subst}
use Rattle.std.specs.Prelude.{IsTrue}
use Rattle.cpl_base.specs.Words.{are_distinct}
use Rattle.cpl_entry.proofs.ViewsFacts.{are_over}
use Rattle.cpl_entry.proofs.book.EntryBook.signs.Goals as goal

pub returns-clause-book : goal.returns-clause-book
returns-clause-book g c =
    let kept = c.args.self.now.kept in record {
      few = kept.few;
      labels = subst (λ (labels : List (List ℕ)). IsTrue (are_distinct labels)) kept.labelled kept.distinct;
      over = are_over c.args.self.now.entries.items;
    }
