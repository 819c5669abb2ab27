pub mod CheckLaws
pub mod Laws
pub mod FillLaws
pub mod Given
