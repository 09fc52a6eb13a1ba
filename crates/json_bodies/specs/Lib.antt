pub mod Body
pub mod Forms
pub mod Machines
pub mod Operations
pub mod Subscribing
pub mod Tables
pub mod Words
