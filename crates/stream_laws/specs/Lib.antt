pub mod GivenLists
pub mod Finished
pub mod InOrder
pub mod SameKeys
pub mod KeyRuns
pub mod AllBytes
