-- One turn of the chaining of a crowd, by the way that it takes. For `chain_crowd`. What the chains come to is in LinkLaws.
-- Assumes nothing.
use Prim.Native.Nat.{ℕ, zero, suc, ◌+◌, ◌%◌, ◌<◌, ◌≤◌}
use mathlib.Core.Bool.{Bool, true, or-true}
use mathlib.Core.List.{List}
use mathlib.Core.Path.{◌≡◌}
use borrow.Author.Tests.{eq-eqb, ne_eqb, lt-ltb, le-ltb}
use lib.Dec.{eqb}
use lib.ListN.{length, get_or, set}
use Rattle.base.specs.Bytes.{u32_at, part}
use Rattle.passes.specs.Chains.{cell_of, Tables, tables, linked, stops, chained, chains_of}
use Rattle.seats.specs.Key.{key_of, last_of}
use Rattle.seats.specs.Seats.{first_seat, seat_at}
use Rattle.seats.specs.declared.seats.Seat.{Seat}

pub chains_start : (attrs : Bool) (s : List ℕ) (at n : ℕ) (x : Seat) (t : Tables) → x ≡ first_seat s at → n ≡ u32_at s x.to →
    chains_of attrs s at t ≡ chained attrs s t 1 n x
unfolding chains_of
chains_start attrs s at n x t p q = rw (q, p)

module _ (attrs : Bool) (s : List ℕ) (t : Tables) (i : ℕ) (x : Seat) where
  stopped : (n : ℕ) → stops t i x ≡ true → chained attrs s t i n x ≡ t
  unfolding chained
  stopped zero e = rw e
  stopped (suc n) e = rw e

  -- no SID stands there
  pub chained_none : (n : ℕ) → x.to ≡ 0 → chained attrs s t i n x ≡ t
  chained_none n z = stopped n (rw (eq-eqb x.to 0 z))

  -- there are no more numbers
  pub chained_many : (n : ℕ) → length t.seats ≤ i → chained attrs s t i n x ≡ t
  chained_many n h = stopped n (rw (le-ltb i (length t.seats) h, or-true (eqb x.to 0)))

  module _ (n : ℕ) (some : x.to ≡ 0 → ⊥) (few : i < length t.seats) where
    pub chained_last : n ≡ 0 → chained attrs s t i n x ≡ linked s t i x
    unfolding chained
    chained_last z = rw (z, ne_eqb x.to 0 some, lt-ltb i (length t.seats) few)

    pub chained_more : (less : ℕ) (y : Seat) → n ≡ suc less → y ≡ seat_at attrs s x.next →
        chained attrs s t i n x ≡ chained attrs s (linked s t i x) (i + 1) less y
    unfolding chained
    chained_more less y z e = rw (z, e, ne_eqb x.to 0 some, lt-ltb i (length t.seats) few)

-- a seat goes ahead of its chain, as the code writes it
pub linked_made : (s heads seats : List ℕ) (i k word c : ℕ) (x : Seat) → k ≡ key_of (part s x.from x.to) →
    word ≡ last_of (part s x.from x.to) → c ≡ cell_of x.from x.to (get_or heads k 0) x.allows x.denies word →
    linked s (tables heads seats) i x ≡ tables (set heads k (i % 65536)) (set seats i c)
unfolding linked
linked_made s heads seats i k word c x p l q = rw (q, p, l)
