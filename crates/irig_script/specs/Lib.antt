pub mod Obey
pub mod Print
pub mod ShelfView
