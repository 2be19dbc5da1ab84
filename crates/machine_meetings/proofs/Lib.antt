pub mod ParameterLemmas
