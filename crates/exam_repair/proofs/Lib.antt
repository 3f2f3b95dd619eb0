pub mod SingleKeys
pub mod FirstBad
pub mod Gathering
pub mod ChosenSessions
