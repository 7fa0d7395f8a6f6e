use Rattle.std.proofs.Common.{List, ℕ, map, ap, sym, ◌∙◌, subst}
use Rattle.std.specs.Prelude.{IsTrue}
use Rattle.std.proofs.lemmas.Result.{err_from_is_err_and}
use Rattle.cpl_base.specs.Words.{are_distinct}
use Rattle.cpl_formula.specs.declared.formula.EntrySign.{EntrySign}
use Rattle.cpl_entry.proofs.ViewsFacts.{cause_of-signs, distinct_labels-Ok, few_entries, labels_of-signs, signs_of-entries}
use Rattle.cpl_entry.specs.Views.{entry_of}
use Rattle.cpl_entry.proofs.book.EntryBook.new.Goals as goal

pub returns-in_err-labels : goal.returns-in_err-labels
returns-in_err-labels g c =
    let p = err_from_is_err_and c.from_residual-in_err-labels.result c.from_residual-in_err-labels.ensures.1 in
    let signed = c.as_slice-2.ensures.value ∙ (rw c.as_slice.ensures.value at c.in_ok-signs.ensures) ∙ signs_of-entries c.args.entries.items in
    rw (p.1, p.2) (record { value = tt; fault = cause_of-signs (map entry_of c.args.entries.items) c.as_slice-2.result.now c.in_err-labels.field-0.0 signed c.in_err-labels.ensures.fault })

pub invariant_of-result : goal.invariant_of-result
invariant_of-result g c =
    let signed = (rw c.as_slice.ensures.value at c.in_ok-signs.ensures) ∙ signs_of-entries c.args.entries.items in
    let labels = ap (λ (signs : List EntrySign). map (λ (sign : EntrySign). sign.label) signs) (c.as_slice-2.ensures.value ∙ signed) ∙ labels_of-signs (map entry_of c.args.entries.items) in
    let found = distinct_labels-Ok _ c.in_ok-labels.labels c.in_ok-labels.ensures.value in
    record {
      kept = record {
        few = few_entries c.args.entries.items c.requires;
        signed = signed;
        labelled = found.0 ∙ labels;
        distinct = subst (λ (ls : List (List ℕ)). IsTrue (are_distinct ls)) (sym found.0) found.1;
      };
    }
