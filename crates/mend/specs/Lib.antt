pub mod Mend
pub mod Mended
pub mod Wanted
