mod Answered
mod Parts
mod Told
