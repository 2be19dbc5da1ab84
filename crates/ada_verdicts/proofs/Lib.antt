pub mod LongSources
