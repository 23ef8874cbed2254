pub mod Rows
pub mod Pages
pub mod Form
pub mod FormView
pub mod PageText
pub mod Laws
