pub mod ReconciliationHolds
pub mod Equal
pub mod Records
pub mod Agreed
