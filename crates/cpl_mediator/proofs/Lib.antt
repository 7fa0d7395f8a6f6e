mod AveragesFacts
mod MergesFacts
pub mod NearFacts
