pub mod FilesReports
mod FourFound
mod KnownReports
pub mod OwnReports
