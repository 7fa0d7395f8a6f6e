use Rattle.std.proofs.Common.{ap, ◌∙◌}
use Rattle.cpl_base.specs.Words.{place_of}
use Rattle.cpl_entry.proofs.LabelsFacts.{place_of-held}
use Rattle.cpl_entry.proofs.labels.Labels.place.Goals as goal

pub returns : goal.returns
returns c =
    c.get_index_of.ensures.index ∙ place_of-held c.args.label.now c.self.inside.held.keys
    ∙ ap (λ labels. place_of labels c.args.label.now) c.self.view_is
