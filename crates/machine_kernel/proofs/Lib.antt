mod JumpLemmas
mod BusyLemmas
mod FutureLemmas
mod KernelLemmas
mod FirstLemmas
