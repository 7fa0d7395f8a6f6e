mod CapFacts
mod ConnectorFacts
mod HaloFacts
mod InitFacts
mod ListFacts
mod NeedFacts
mod OpCursorFacts
pub mod PartFacts
mod PortFacts
mod RangeFacts
pub mod StayFacts
mod SystemFacts
pub mod TraceFacts
pub mod WorldFacts
