pub mod Literals
pub mod Exprs
pub mod Preds
pub mod Plans
