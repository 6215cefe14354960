mod Pairs
mod Worked
