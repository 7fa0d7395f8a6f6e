pub mod AlarmFacts
