pub mod ZeroWords
