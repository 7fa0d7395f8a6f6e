mod CutFacts
mod DigitsFacts
pub mod NumeralsFacts
mod OutsideFacts
mod PreparedFacts
mod RepeatFacts
mod RoundingFacts
pub mod WordsFacts
