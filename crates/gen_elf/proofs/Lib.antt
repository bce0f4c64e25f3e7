mod CodeAdded
mod Sizes
