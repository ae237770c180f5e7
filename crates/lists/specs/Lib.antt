-- "Identities, lists, descriptor (MS-DTYP, source 002)", in the page's order; the identities stand in sids. Nothing here knows of tokens.
-- ACL; entries in DACLs and in SACLs
pub mod Acl
-- spare bytes in entries
pub mod Spare
-- the self-relative descriptor, its parts and its numbers 6, 7 and 8
pub mod Descriptor
-- how the code answers of it
pub mod Handed
-- how the code goes about it: a list of types 0 and 1 alone; a judged list walked once more, by lengths
pub mod Simple
pub mod ByLength
