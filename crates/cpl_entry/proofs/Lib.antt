mod LabelsFacts
mod SigningFacts
mod ViewsFacts
