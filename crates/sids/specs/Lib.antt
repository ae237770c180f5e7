-- "Identities" (MS-DTYP, source 002). Nothing here knows of lists or tokens.
-- SID; identities and their bytes; the two virtual ones
pub mod Sid
