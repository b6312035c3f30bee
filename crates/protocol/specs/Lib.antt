-- The meaning of the product, in the order of document 01. An auditor reads the modules of the first two groups.

-- the words in which the rest is said
pub mod Bytes
pub mod Utf8
pub mod Calendar
-- blocks, tickets, the table and the register; requests; answers; the steps; the calls
pub mod Blocks
pub mod Tickets
pub mod Records
pub mod Table
pub mod Register
pub mod Request
pub mod Answers
pub mod Steps
pub mod Calls
pub mod Visits
pub mod Panels
pub mod Refusals
-- the numbered examples
pub mod Worked
-- apart from the meaning: words for the contracts of code below the calls
pub mod Written
pub mod Held
