pub mod TypeYields
pub mod PatternYields
pub mod ExpressionYields
pub mod Found
