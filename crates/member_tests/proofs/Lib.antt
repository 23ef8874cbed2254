pub mod ReadMembers
