pub mod Opening
pub mod Output
pub mod Program
pub mod Words
