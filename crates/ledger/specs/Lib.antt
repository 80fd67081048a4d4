pub mod Event
pub mod Ledger
pub mod Packets
pub mod Run
pub mod Demand3
