mod BroodLemmas
mod TallyLemmas
