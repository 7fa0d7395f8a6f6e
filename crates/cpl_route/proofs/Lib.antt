mod HaloFacts
mod OwnedFacts
mod PairFacts
mod PickFacts
mod ReachFacts
mod RouteFacts
pub mod SharedFacts
mod TableFacts
mod WalkFacts
