mod Keeps
mod Seated
mod Listed
mod Given
mod Placed
mod Once
mod Made
