mod LastLemmas
mod MasterLemmas
mod PlaceLemmas
mod QueuedLemmas
mod StepLemmas
