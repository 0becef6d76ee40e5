pub mod Cast
pub mod Driving
