pub mod TurnLaws
pub mod RunLaws
pub mod FileLaws
pub mod SavingLaws
