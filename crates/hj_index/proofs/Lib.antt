mod Banding
mod Bands
mod ChainChanges
mod ChainFinds
mod ChainKeys
mod ChainLinks
mod ChainRows
mod ChainSorts
mod ChainSweeps
mod ChainWalks
mod OrderedKeys
mod OrderedRows
pub mod Ready
mod Sufficing
