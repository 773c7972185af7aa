mod Bytes
mod Fields
