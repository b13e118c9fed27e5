mod Behind
mod Known
mod Over
