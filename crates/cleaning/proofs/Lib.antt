-- Anew has the laws of clean, Back those of recover.
mod Anew
mod Back
