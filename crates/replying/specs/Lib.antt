-- What a reply is asked, and what it leaves.
pub mod Replying
