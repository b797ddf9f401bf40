mod Prefixing
