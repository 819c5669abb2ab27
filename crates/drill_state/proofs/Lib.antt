pub mod FeedingLaws
pub mod Laws
