mod Lookups
mod Puts
mod Renewing
mod Caching
