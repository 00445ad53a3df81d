-- What streams hold behind activations that all have ended.
pub mod InOrder
-- What is known of activations that run apart from those before them.
pub mod Apart
-- The laws, as statements.
pub mod Laws
