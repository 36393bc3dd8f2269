pub mod Turns
pub mod Files
pub mod StdFile
pub mod BookFile
pub mod Start
pub mod Saving
pub mod Whole
