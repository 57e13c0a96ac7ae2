mod Examined
