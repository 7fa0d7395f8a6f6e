mod AimFacts
mod FrameFacts
mod ListFacts
mod RingFacts
mod RowFacts
mod SizeFacts
mod TotalFacts
