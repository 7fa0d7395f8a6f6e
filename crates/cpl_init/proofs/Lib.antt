mod MissingFacts
mod NeedFacts
mod OrderFacts
mod RangeFacts
mod RoundFacts
mod WaitingFacts
