pub mod Choice
