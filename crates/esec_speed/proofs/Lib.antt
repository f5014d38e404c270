mod Undisturbed
