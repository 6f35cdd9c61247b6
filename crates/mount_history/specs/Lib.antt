-- What the calls and replies of MOUNT tell, the run over a list of them, and the statements.
pub mod Told
pub mod Run
pub mod Statement
