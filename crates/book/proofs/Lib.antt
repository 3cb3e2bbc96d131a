mod Booked
mod Formed
mod Paged
mod Pieces
