-- Laws of forms.
pub mod Fills
pub mod Unique
