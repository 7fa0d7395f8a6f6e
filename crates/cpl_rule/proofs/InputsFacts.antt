-- What a formula reads, as arguments.
use Rattle.std.proofs.Common.{◌≡◌, ℕ, List, [], ◌∷◌, map, refl, sym, ap, subst, ◌∙◌}
use Rattle.std.specs.List.{All}
use Rattle.std.proofs.lemmas.List.Elements.{All-cons, All-head, All-nil, All-tail}
use Rattle.cpl_block.specs.declared.frame.Frame.{Frame}
use Rattle.cpl_comp.specs.Readings.{Reading, argument_value, read_value}
use Rattle.cpl_comp.specs.declared.component.Rule.{Rule}
use Rattle.cpl_comp.specs.declared.component.Rule.TheVariants.{Plain}
use Rattle.cpl_formula.specs.declared.arguments.Argument.{Argument}
use Rattle.cpl_formula.specs.declared.arguments.Argument.TheVariants.{Cell}
use Rattle.cpl_formula.specs.declared.formula.Parsed.{Parsed}
use Rattle.cpl_formula.specs.declared.formula.Read.{Read}
use Rattle.cpl_sweep.specs.declared.place.Place.{Place}
use Rattle.cpl_rule.specs.Inputs.{IsArgumentNear, IsReadNear, arguments_of, place_of, places_of_rule}
use Rattle.cpl_rule.specs.declared.moment.Moment.{Moment}

-- what holds of arguments that are reads holds of the reads
pub of-cells : (P : Argument → Type 0) (reads : List Read) → All P (map Cell reads) → All (λ read. P (Cell read)) reads
of-cells P [] each = All-nil (λ read. P (Cell read))
of-cells P (read ∷ more) each =
    All-cons (λ read. P (Cell read)) read more (All-head P (Cell read) (map Cell more) each) (of-cells P more (All-tail P (Cell read) (map Cell more) each))

pub near-reads : (frame : Frame) (fields alarms : ℕ) (rule : Rule) (parsed : Parsed) (reads : List Read) → rule ≡ Plain parsed → reads ≡ parsed.reads → All (IsArgumentNear frame fields alarms) (arguments_of rule) → All (IsReadNear frame fields alarms) reads
near-reads frame fields alarms rule parsed reads is same near =
    let P : Rule → Type 0 = λ r. All (IsArgumentNear frame fields alarms) (arguments_of r) in
    let Q : List Read → Type 0 = λ rs. All (IsReadNear frame fields alarms) rs in
    subst Q (sym same) (of-cells (IsArgumentNear frame fields alarms) parsed.reads (subst P is near))

-- a function of arguments over reads
pub map-cells : {A : Type 0} (f : Argument → A) (reads : List Read) → map f (map Cell reads) ≡ map (λ read. f (Cell read)) reads
map-cells f [] = refl
map-cells f (read ∷ more) = λ i. f (Cell read) ∷ map-cells f more i

pub placed-reads : (frame : Frame) (fields : ℕ) (moment : Moment) (rule : Rule) (parsed : Parsed) (reads : List Read) (places : List Place) → rule ≡ Plain parsed → reads ≡ parsed.reads → places ≡ map (λ read. place_of frame fields moment (Cell read)) reads → places ≡ places_of_rule frame fields moment rule
placed-reads frame fields moment rule parsed reads places is same made =
    made
    ∙ ap (map (λ read. place_of frame fields moment (Cell read))) same
    ∙ sym (map-cells (place_of frame fields moment) parsed.reads)
    ∙ ap (places_of_rule frame fields moment) (sym is)

-- what reads give at a cell
pub values-of-reads : (reading : Reading) (s : ℕ) (reads : List Read) → map (argument_value reading s) (map Cell reads) ≡ map (read_value reading s) reads
values-of-reads reading s reads = map-cells (argument_value reading s) reads
