-- "The entry reader keeps the list it was opened on and its place in that list": what stands at a place, and a reading from it.
pub mod Reading
