mod Blocks
mod Covering
mod Finding
mod Keeping
mod Listing
mod Masks
mod Probes
