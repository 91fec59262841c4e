-- The dump that is read.
pub mod Intakes
pub mod Few
pub mod Sound
-- The texts that are written.
pub mod Blocks
pub mod Passed
pub mod PutsAt
pub mod Replacing
pub mod Taking
-- The place that is written, and others.
pub mod Apart
