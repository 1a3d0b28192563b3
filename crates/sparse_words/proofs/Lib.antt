mod ChunkWords
mod Lists
