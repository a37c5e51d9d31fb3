-- Lemmas on the steps of seats: each keeps the rule, and is an event of the core or none.
pub mod EndSteps
pub mod EventSteps
pub mod HandingSteps
pub mod KeeperSteps
pub mod LookSteps
pub mod MeetingSteps
pub mod OpeningSteps
pub mod ReaderSteps
pub mod TicketSteps
pub mod WorkSteps
pub mod WriteSteps
