pub mod Numbers
pub mod Reader
pub mod ReadBack
pub mod OneLine
