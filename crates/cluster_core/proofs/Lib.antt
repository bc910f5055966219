pub mod Begun
mod Coming
mod Ending
mod Failing
mod Recovered
mod Seating
mod Stepping
mod Steps
