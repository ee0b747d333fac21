mod Branches
mod Halving
mod Works
mod Solving
mod Shared
