-- the masks that are left, and what is granted, allowed and staged
pub mod Granted
