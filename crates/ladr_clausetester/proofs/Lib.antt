mod Testings
mod Told
