mod EditLemmas
mod OkLemmas
mod PutLemmas
mod QueueLemmas
mod TakeLemmas
