mod DepthLemmas
mod EndingLemmas
mod OkLemmas
mod UnwindLemmas
