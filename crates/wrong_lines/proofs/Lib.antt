mod Places
mod Orders
mod Steps
mod Behind
mod Whole
