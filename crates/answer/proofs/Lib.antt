-- Codes has the cases of the two numbers, and what an answer that is no number is; Checked what checks came to; Coming what a call that
-- fills a list comes to.
pub mod Codes
pub mod Checked
pub mod Coming
