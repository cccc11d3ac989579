pub mod KeptErrors
pub mod KeptMerging
pub mod KidFields
pub mod KidPlans
pub mod KidReturns
