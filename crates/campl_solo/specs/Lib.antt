pub mod Asking
pub mod Beginning
pub mod Fits
pub mod Solos
