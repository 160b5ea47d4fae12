pub mod Numbers
pub mod OneStep
pub mod Steps
pub mod Statuses
