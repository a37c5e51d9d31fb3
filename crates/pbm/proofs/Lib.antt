mod Steps
mod Words
mod RasterRows
mod Eights
mod Numbers
mod Digits
mod Gaps
mod Rasters
mod PartReads
mod Pixels
mod RawRasters
mod Headers
pub mod Images
mod Progress
mod Decimals
pub mod Ranges
mod RawTexts
mod PlainTexts
mod Lines
mod RawRows
mod RowReads
mod PlainWords
mod Following
mod Prefixes
mod Taken
