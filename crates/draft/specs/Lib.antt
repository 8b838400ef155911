pub mod Apart
pub mod Drafts
pub mod Refusals
pub mod Rules
pub mod Rows
pub mod Saving
pub mod Plans
pub mod Laws
