pub mod Convex
pub mod Points
pub mod Polygon
pub mod Rows
pub mod Sides
