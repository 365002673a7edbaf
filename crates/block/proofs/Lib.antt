mod Playing
mod Telling
