pub mod FormalsBeside
