mod Ending
mod Following
mod Keeping
mod OneSchema
mod Opened
mod Ran
mod Shown
