-- Candidates, the searches over the copies, the answer.
pub mod Laws
