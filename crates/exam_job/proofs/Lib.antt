pub mod Given
pub mod Shown
pub mod Imported
pub mod Streaming
pub mod OneCommand
