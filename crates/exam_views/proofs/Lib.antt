pub mod Showing
pub mod OwnSeats
pub mod OwnRows
pub mod OwnDesks
pub mod OwnEntered
