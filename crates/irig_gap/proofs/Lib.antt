-- places as lists: what each step leaves in them
mod Copies
mod GapLemmas
mod Live
mod Overlays
-- places as memory, for the walks by hand
mod Blocks
mod RowLoans
mod RowPairs
mod Rows
mod Steps
