mod Deciding
mod SitesThere
mod Missing
mod Searching
mod Sorting
mod PointsThere
mod NamesThere
mod ProgramsThere
mod HeadsCounted
pub mod Together
