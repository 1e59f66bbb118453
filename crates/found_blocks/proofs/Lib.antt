mod Trees
mod Freeing
mod Fetches
mod Loading
mod Searching
mod Asking
mod Discovering
