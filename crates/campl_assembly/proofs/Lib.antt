mod Characters
mod Places
mod Spelled
