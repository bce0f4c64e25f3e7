mod Linked
mod Sure
mod Seen
