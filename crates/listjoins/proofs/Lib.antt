mod Frees
