pub mod LastValue
pub mod Filled
pub mod PlaceView
pub mod WalkView
pub mod Joins
pub mod Laws
pub mod SideView
