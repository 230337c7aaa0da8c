-- The laws of the definitions, which the crates above cite, and those of the functions here. Assumes nothing.
pub mod KindLaws
pub mod PassedLaws
pub mod OrderLaws
pub mod PictureLaws
pub mod CheckLaws
pub mod ImageLaws
pub mod ChangeLaws
pub mod Unique
