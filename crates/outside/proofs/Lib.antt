mod Consumed
mod Gained
