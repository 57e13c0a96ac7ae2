mod Seeking
mod Questions
mod Telling
