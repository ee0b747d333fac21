pub mod Commands
mod EachFound
mod InterpFound
mod NamesMoved
mod Taken
mod Worked
