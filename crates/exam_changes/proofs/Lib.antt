pub mod Counting
pub mod DecidedRows
pub mod Exchanges
pub mod GoingBack
pub mod Undoing
