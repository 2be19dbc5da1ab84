pub mod FirstTexts
pub mod JudgedOn
pub mod ReadOn
pub mod ReportedOn
pub mod AccountLines
pub mod LinesOn
