mod Declared
mod Listing
mod NoLonger
