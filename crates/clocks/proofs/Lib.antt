mod Samplers
mod Suffixes
mod Limits
