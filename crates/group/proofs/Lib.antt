pub mod SetUpLaws
pub mod PutBack
