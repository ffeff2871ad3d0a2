pub mod Apps
pub mod ByteText
pub mod CommandLine
pub mod Comments
