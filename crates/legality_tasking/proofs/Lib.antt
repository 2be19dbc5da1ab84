pub mod EntriesThere
