pub mod KeptChildren
pub mod RequestKids
