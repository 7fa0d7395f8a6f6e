mod OwnFacts
