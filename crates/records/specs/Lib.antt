-- "Token record (house format)", the flat listing, the token rules and the two converters, in the page's order; then how one format is
-- made of the other, by place.
-- what a token is
pub mod Token
-- the fields, once for both formats
pub mod Fields
-- the ranges of the fields
pub mod Shaped
-- the packed record
pub mod TokenRecord
-- the flat listing
pub mod FlatListing
-- whom it shows
pub mod Crowd
-- the token rules (4)
pub mod TokenRules
-- the two converters, with 3, 4 and 11
pub mod Converters
-- what unpacking leaves in a buffer
pub mod Unpacking
-- what it says of the token rules
pub mod Clean
-- what packing writes, by place
pub mod Packing
