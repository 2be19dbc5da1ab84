mod QuantumLemmas
mod StepLemmas
