pub mod Apart
pub mod Listing
pub mod SideWalks
pub mod Tables
pub mod Rules
pub mod Members
pub mod Ranges
pub mod Entry
