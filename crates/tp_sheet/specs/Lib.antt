pub mod SiteSheet
pub mod View
