pub mod MapsKept
