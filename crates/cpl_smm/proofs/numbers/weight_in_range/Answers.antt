use Rattle.std.proofs.Common.{◌≡◌, ◌∙◌, ℕ, Bool, List, Option, Some, ap}
use Rattle.cpl_base.specs.Numerals.{cut_at, numeral_of, parts_of, parts_value}
use Rattle.cpl_smm.specs.Records.{greatest_weight, weight_in_range}
use Rattle.cpl_smm.proofs.numbers.weight_in_range.Goals as goal

pub returns-in-Some : goal.returns-in-Some
unfolding numeral_of
returns-in-Some c =
    let minus = c.split_sign-minus.result.0 in
    let rest = c.split_sign-minus.result.1.now in
    let cut : Some (c.in-Some.units.now, c.in-Some.places.now) ≡ cut_at 46 rest = c.in-Some.ensures in
    c.parts_in_range.ensures
    ∙ ap (λ (h : Option (List ℕ × List ℕ)). weight_in_range (parts_value 9 greatest_weight minus (parts_of rest h))) cut
    ∙ ap (λ (s : Bool × List ℕ). weight_in_range (parts_value 9 greatest_weight s.0 (parts_of s.1 (cut_at 46 s.1)))) c.split_sign-minus.ensures
