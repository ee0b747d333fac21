mod Places
mod Texts
