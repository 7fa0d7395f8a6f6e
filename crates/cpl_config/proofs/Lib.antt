mod KeptFacts
mod StepsFacts
mod WordsFacts
