mod Cuts
mod Heads
mod Saying
mod Spelt
