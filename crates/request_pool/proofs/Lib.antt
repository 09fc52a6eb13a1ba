pub mod FrontLaws
pub mod HandLaws
pub mod PoolLaws
