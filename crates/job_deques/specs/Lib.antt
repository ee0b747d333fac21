pub mod Rule
pub mod Seats
pub mod Hands
pub mod Dealt
pub mod Deals
