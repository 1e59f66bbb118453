mod Looks
mod Asked
mod Beginning
mod Running
mod Leaving
