pub mod Reconciled
pub mod Reconciliation
pub mod Shares
