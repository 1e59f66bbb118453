pub mod Hmac
pub mod Pbkdf2
pub mod Order
pub mod Rows
pub mod Salsa
pub mod Scrypt
pub mod Cost
