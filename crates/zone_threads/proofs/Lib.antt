mod UnitsShown
mod Reading
mod Pinning
mod Visited
