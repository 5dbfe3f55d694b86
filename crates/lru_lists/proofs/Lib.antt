mod Linking
mod Lists
mod Packing
mod Pairs
mod Records
mod Walking
