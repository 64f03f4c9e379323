pub mod KeepLemmas
pub mod LazyLemmas
pub mod RelationLemmas
