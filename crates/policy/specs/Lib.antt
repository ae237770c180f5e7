-- "Policy (source 004)": its shape with the numbers 9 and 10, and what its rules leave.
pub mod Standing
pub mod Policy
pub mod Rules
-- how the code goes about it: the rules found again, without a second look at their lists' shape
pub mod ByLengths
pub mod Walking
