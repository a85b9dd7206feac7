pub mod EndsLemmas
pub mod ProductLemmas
pub mod QuotientLemmas
pub mod PowerLemmas
