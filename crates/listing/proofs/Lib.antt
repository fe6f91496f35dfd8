mod Written
mod Exactly
mod Lines
mod Sized
mod Going
mod Putting
