mod Found
mod Looks
mod Outcomes
