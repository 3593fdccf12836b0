-- The standby: the row of handles, answers, the store's places, the state, its calls; the plain copy and demand 3;
-- what goes into the hold areas; the calls as the code cuts them.
pub mod Row
pub mod Answer
pub mod Store
pub mod State
pub mod Handles
pub mod Standby
pub mod PlainCopy
pub mod Demand
pub mod OneHandle
pub mod Hold
pub mod Core
pub mod Starred
