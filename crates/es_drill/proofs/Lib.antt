mod Cutting
mod Feeding
mod Making
mod Stepping
mod Acting
mod Drilling
mod Telling
