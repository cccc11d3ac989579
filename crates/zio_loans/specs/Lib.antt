pub mod Out
pub mod Rule
pub mod Lending
