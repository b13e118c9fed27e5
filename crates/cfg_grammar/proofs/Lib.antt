mod ByteLemmas
mod Examples
