mod InputsRead
mod OverBoth
mod MemoryWanting
mod LowStatuses
mod NoFault
mod ReportsDone
mod MadeUnrefused
mod OrdersDone
