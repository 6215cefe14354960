pub mod Files
pub mod PairTables
