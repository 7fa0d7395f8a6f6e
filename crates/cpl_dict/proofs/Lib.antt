mod AddingFacts
mod AscendingFacts
mod KeptFacts
mod NamesFacts
mod NotedFacts
mod NumbersFacts
mod SynonymsFacts
mod UnitsFacts
