-- The page of forms.
pub mod Page
