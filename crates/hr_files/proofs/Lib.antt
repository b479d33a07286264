pub mod Progress
pub mod ReadMore
pub mod ReplaceMore
pub mod RollMore
