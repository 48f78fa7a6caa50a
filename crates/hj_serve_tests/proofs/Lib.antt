pub mod MemoryRoles
