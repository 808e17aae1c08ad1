mod Chain
mod Written
