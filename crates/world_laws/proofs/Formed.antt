pub mod FormedWorlds
pub mod FormedRuns
