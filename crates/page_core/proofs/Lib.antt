pub mod PageLaws
pub mod PageLemmas
pub mod HiddenLemmas
pub mod JsonLemmas
pub mod PairFront
