-- The laws of what the exported functions hand out.
mod ToldLaws
