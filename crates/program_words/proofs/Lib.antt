mod WrongLemmas
