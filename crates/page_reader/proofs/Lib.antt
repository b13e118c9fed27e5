mod Mirroring
