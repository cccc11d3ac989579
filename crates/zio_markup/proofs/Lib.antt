pub mod EscapeLemmas
