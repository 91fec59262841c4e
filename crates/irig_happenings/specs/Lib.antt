pub mod Roles
pub mod Letters
pub mod Happenings
pub mod Margins
pub mod Parts
pub mod JsonTexts
pub mod Texts
pub mod Listings
