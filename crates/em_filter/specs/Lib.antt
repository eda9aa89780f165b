pub mod Bits
pub mod Address
pub mod Vlan
pub mod Control
pub mod Filters
