mod BuildFacts
mod ComponentFacts
mod FileFacts
mod ListFacts
mod PartFacts
mod SpanFacts
