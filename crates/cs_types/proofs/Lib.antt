pub mod CalendarLemmas
pub mod DateLemmas
pub mod DayLemmas
pub mod FitLemmas
pub mod KeyLemmas
pub mod PaddedLemmas
pub mod Rounding
pub mod RowLemmas
