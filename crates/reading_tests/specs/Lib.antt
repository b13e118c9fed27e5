pub mod Certificate
pub mod Small
