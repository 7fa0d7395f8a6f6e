mod BitFacts
mod ListFacts
mod MarkFacts
mod PairFacts
mod WayFacts
