pub mod Shuffled
