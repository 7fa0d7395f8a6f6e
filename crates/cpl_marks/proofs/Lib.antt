pub mod FaultFacts
mod ListFacts
mod PlanFacts
mod ReadFacts
pub mod StartFacts
