mod StatesTold
mod PointsSoFar
mod Answered
mod Words
