mod Accepting
mod PointsAsked
