pub mod QueuedCalls
