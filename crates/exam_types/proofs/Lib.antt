pub mod CodeFacts
pub mod DayFacts
pub mod DayTexts
pub mod DigitFacts
pub mod FeatureFacts
pub mod NumeralFacts
pub mod ValueFacts
