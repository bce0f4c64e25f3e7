mod Taken
mod Plain
mod Usages
