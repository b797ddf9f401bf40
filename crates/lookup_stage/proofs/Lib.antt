mod SameKeys
mod Entries
mod Firsts
mod Turns
