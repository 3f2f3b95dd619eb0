pub mod First
pub mod Found
pub mod Judging
pub mod Looking
