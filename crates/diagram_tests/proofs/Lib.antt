mod StoresForTests
mod ListedPoints
mod AnyElements
mod AnyNeeds
