pub mod Pages
pub mod Books
