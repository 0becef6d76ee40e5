pub mod About
pub mod Laws
pub mod Scenes
pub mod Shapes
pub mod Signs
