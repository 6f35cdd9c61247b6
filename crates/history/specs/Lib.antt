-- The book, the run over a list of requests, and the statement of demand 3.
pub mod Book
pub mod Run
pub mod Statement
