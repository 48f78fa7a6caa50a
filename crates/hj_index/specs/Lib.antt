pub mod KeyChains
pub mod HashStore
pub mod Keys
pub mod OrderedIndex
pub mod OrderedStore
