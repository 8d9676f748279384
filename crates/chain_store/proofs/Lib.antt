mod Bools
pub mod Rising
pub mod Walking
pub mod Linking
pub mod Fates
pub mod Showing
