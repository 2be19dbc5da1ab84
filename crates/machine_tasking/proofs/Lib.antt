mod CalmLemmas
mod KeptLemmas
mod NamedLemmas
mod StepLemmas
