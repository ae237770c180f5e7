-- Laws of what the programs that are tests share.
pub mod TextLaws
