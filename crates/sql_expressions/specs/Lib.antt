pub mod Build
pub mod Results
pub mod Readers
pub mod Reading
pub mod Grammar
pub mod Laws
pub mod Inner
