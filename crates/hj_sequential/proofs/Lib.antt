mod GivenPairs
mod Listing
mod Running
