-- the question file
pub mod QuestionFile
-- the same as the code holds it
pub mod Blobs
