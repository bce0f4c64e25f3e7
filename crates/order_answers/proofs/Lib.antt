mod PointsListed
mod LinesTold
mod RowsTold
mod OutOfRange
mod OffsetsFound
mod NarrowTold
mod RefuteTold
