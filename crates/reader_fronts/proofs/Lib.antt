mod States
mod BadFronts
mod BadReading
