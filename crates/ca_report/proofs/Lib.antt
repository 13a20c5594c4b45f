pub mod After
pub mod Escaping
pub mod InPieces
pub mod OneMore
pub mod Taken
