mod Flattening
mod Opened
mod Rows
mod Trees
