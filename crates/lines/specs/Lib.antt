-- Lines on the wire, as definitions: frames read, answers printed, what the contracts of the code that reads and prints cite besides, and a
-- line and the box. Then the format in words, and the statements that the definitions say the same.
pub mod Frames
pub mod Lines
pub mod Read
pub mod Printed
pub mod Wire
pub mod Format
pub mod Statements
