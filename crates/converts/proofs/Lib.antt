-- Laws of buffers.
mod BuffersLaws
