pub mod Sums
mod Selected
mod Firsts
mod Tallies
mod Searches
