pub mod SettingSteps
pub mod Settings
