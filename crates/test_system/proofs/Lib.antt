mod MakingFacts
