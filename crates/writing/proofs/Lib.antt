-- Words has what the data laid into an array are, Calls what the calls come to behind each check.
mod Words
mod Calls
