pub mod AlongIs
