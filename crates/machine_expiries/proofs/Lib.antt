mod EditLemmas
mod FuelLemmas
