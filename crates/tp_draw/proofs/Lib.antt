pub mod Due
pub mod Named
