pub mod MapSources
