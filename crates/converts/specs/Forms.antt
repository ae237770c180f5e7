-- What is made of a token in one of its two forms, and the parts of the largest token in each.
use Rattle.std.specs.Prelude.{ℕ, List, []}
use Rattle.records.specs.Converters.{Conversion, as_listing, as_record}
use Rattle.converts.specs.declared.report.Form.{Form}
use Rattle.converts.specs.declared.report.Form.TheVariants.{Record, Listing}
use Rattle.converts.specs.Buffers.{Build, puts, crowds, packed_crowd, flat_crowd, record_but_last, listing_but_last}

-- a token of a form, in the other form
abbrev pub made : Form → List ℕ → Conversion
made Record = as_listing
made Listing = as_record

-- the largest identities with no tail, in each form
abbrev pub crowd_of : Form → ℕ → Build → Build
crowd_of Record = packed_crowd
crowd_of Listing = flat_crowd

-- the largest token up to the last of its 64 capabilities, in each form
abbrev pub but_last : Form → Build → Build
but_last Record = record_but_last
but_last Listing = listing_but_last

-- the same, by what stands before its user, its groups and its capabilities, and by an identity's head and word
abbrev pub parts_but_last : List ℕ → List ℕ → List ℕ → List ℕ → List ℕ → Build → Build
parts_but_last user groups capabilities head word p =
    crowds head word [] 63
    (puts capabilities
    (crowds head word [] 1
    (crowds head word word 256
    (puts groups (crowds head word [] 1 (puts user p))))))
