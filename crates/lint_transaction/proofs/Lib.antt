pub mod EarlierLaws
pub mod EventLaws
pub mod MapLaws
pub mod NameLaws
pub mod NameSearch
pub mod Paths
pub mod SpanLaws
pub mod TrackingLaws
