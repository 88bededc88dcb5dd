pub mod Tops
pub mod RowsSet
pub mod Depths
