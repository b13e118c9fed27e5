mod Exact
mod Examples
