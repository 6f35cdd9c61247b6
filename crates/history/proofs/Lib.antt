-- Sums, tests and lists.
pub mod Sum
pub mod Lists
-- The theory that knows no bytes: a store seen as functions of a record's number, its tree and the three changes of it, parents, the book, the
-- handles issued, and blocks.
pub mod View
pub mod Tree
pub mod Change
pub mod Named
pub mod Removed
pub mod Moved
pub mod Walk
pub mod Handles
pub mod Agree
pub mod Issue
pub mod Room
-- The store's bytes as a view; the tree and the room of a store that passes its check, and back; the edits as changes of the view.
pub mod Seen
pub mod Bridge
pub mod Frames
pub mod Inv
-- What calls ask, what replies say, and what the book makes of them.
pub mod Replies
pub mod Asked
pub mod Ranges
pub mod Noted
pub mod Checks
pub mod Statuses
-- The procedures, every request, and any list of them; the lines of the book, one of which CREATE may find.
pub mod Sizes
pub mod Making
pub mod Lines
pub mod Create
pub mod Linking
pub mod Removing
pub mod Renaming
pub mod Next
-- The fields of the statement, and demand 3.
pub mod Counts
pub mod Paths
pub mod Later
pub mod Answers
pub mod Carried
pub mod Asking
pub mod Nospc
pub mod Only
pub mod Conditions
pub mod Again
pub mod Linked
pub mod Losing
pub mod Onto
pub mod Demand
-- The book over bytes, by computation.
pub mod Examples
