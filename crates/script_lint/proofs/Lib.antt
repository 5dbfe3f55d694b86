mod Causes
mod Ends
mod Judging
mod Pasts
mod Pieces
mod Progress
mod Refusing
mod Spots
