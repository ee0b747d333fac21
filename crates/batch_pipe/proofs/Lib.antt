mod Blocks
mod Stops
mod Answered
