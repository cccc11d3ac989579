pub mod Hands
pub mod Rule
pub mod Queues
pub mod Team
