mod LineFacts
mod MergingFacts
mod OrderFacts
mod UniqueFacts
