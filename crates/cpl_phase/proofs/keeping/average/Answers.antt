use Rattle.std.proofs.Common.{◌≡◌, ◌≢◌, ◌∙◌, ◌-◌, ℕ, ℤ, ap, length, map, sym}
use Rattle.cpl_grid.specs.Parts.{cells_of_part}
use Rattle.cpl_mediator.specs.Averages.{average_at}
use Rattle.cpl_phase.specs.Keeping.{kept_in}
use Rattle.cpl_phase.proofs.AverageFacts.{averages-in, mean-some}
use Rattle.cpl_phase.proofs.KeepingFacts.{many-homes}
use Rattle.cpl_phase.proofs.keeping.average.Goals as goal

pub returns-in-Ok-clause-written : goal.returns-in-Ok-clause-written
returns-in-Ok-clause-written c = λ layout values kept same stands own.
    let frame = c.args.frame.now in
    let sites = c.args.sites.now in
    let accum = c.args.accum.now in
    let are = c.requires.sites in
    let value : ℕ → ℤ = λ s. average_at kept (s - 1) in
    let some : accum.count ≢ 0 = λ none. c.if-nothing.false (c.count-nothing.ensures.value ∙ none) in
    let many : length accum.sums ≡ length (cells_of_part frame.grid frame.part) =
    c.requires.accum.sums some ∙ many-homes frame sites are ∙ ap length are.listed in
    let cells : c.average.new.into ≡ map value sites.cells.items =
    c.in-Ok.ensures.value (kept_in frame kept) stands ∙ averages-in frame kept (length accum.sums) many ∙ ap (map value) (sym are.listed) in
    mean-some frame layout accum values kept c.scatter_field.new.field c.frame_laws.ensures same some stands
    (c.scatter_field.ensures.cells value cells ∙ ap (map value) are.listed)
