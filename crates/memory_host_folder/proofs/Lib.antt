mod Turned
mod Growing
mod Dressed
