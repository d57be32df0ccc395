pub mod BitCounts
pub mod BitLemmas
pub mod Counts
pub mod EndBatches
pub mod EndLemmas
pub mod StampMerges
pub mod StampSearch
