mod DisplayLemmas
