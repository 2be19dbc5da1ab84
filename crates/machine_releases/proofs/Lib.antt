mod EditLemmas
mod OkLemmas
