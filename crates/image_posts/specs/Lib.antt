-- The bench's chip as an image, and an image as the bench's chip.
pub mod Images
