mod Numbers
mod Pairs
