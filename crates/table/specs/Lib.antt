pub mod CuppingTable
