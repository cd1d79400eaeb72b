mod Cutting
mod Calls
