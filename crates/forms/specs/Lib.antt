-- Rows as data.
pub mod Forms
