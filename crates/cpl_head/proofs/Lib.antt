mod AlarmFacts
mod HeadFacts
mod TimesFacts
