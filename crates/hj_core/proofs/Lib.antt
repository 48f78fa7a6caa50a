mod Flights
mod Homes
mod Merges
