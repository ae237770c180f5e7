-- How the code goes about it: most lists have allow and deny entries of types 0 and 1 alone, and then there is nothing to judge behind a
-- SID. A list is first walked for that; any other is walked once more, entry by entry as the page says. SimpleLaws shows that a simple list
-- is plain.
use Rattle.std.specs.Prelude.{ℕ, zero, suc, List, Bool, true, false, cond, ltb, eqb}
use Rattle.base.specs.Bytes.{byte_at, u16_at}
use Rattle.lists.specs.Acl.{head_end, holds}

-- the entry from a place to its end holds a mask and one SID, which is judged in a DACL
abbrev pub fits_as : Bool → List ℕ → ℕ → ℕ → Bool
fits_as deep l at e = cond deep (holds l at e) true

-- n entries of types 0 and 1 stand back to back from a place
unfoldable pub simple_at : Bool → List ℕ → ℕ → ℕ → Bool
simple_at deep l zero at = true
simple_at deep l (suc n) at =
    let e = head_end l at in
    let r = simple_at deep l n e in
    cond (eqb e 0) false (cond (ltb 1 (byte_at l at)) false (cond (fits_as deep l at e) r false))

unfoldable pub simple : Bool → List ℕ → Bool
simple deep l = simple_at deep l (u16_at l 4) 8
