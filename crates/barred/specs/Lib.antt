pub mod Bars
pub mod Sound
pub mod Laws
pub mod Barring
