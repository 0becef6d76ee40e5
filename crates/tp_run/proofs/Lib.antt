pub mod BothLaws
pub mod NoneOpen
pub mod Served
pub mod TextLaws
pub mod TopCalls
pub mod Traces
pub mod Words
