mod ListedPoints
mod InMemory
mod RowsCounted
