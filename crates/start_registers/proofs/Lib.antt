mod WordTexts
mod Cuts
mod NamesClean
mod ItemsSet
mod Tables
mod ListsRead
