pub mod Dma
pub mod Note
pub mod Trail
