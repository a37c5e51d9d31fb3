mod Pooling
mod ServerLemmas
mod Serving
mod Speaking
mod Dumping
