-- The laws that the proofs of the functions lean on.
mod FileSteps
