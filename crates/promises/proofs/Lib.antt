-- The front page, and nothing else: the three demands, and what each request promises beside them.
pub mod Promises
pub mod Requests
