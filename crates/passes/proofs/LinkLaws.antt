-- One seat more in the chains of a crowd. In order: what holds of the tables after some seats, that a SID is found in the chain of its key
-- exactly where it is among those, and so in the row of all seats (Holds); one seat more (linked_holds). All of them are in ChainedLaws.
-- Assumes nothing.
use Prim.Native.Nat.{ℕ, zero, suc, ◌+◌, ◌-◌, ◌*◌, ◌%◌, ◌<◌, ◌≤◌}
use mathlib.Core.Bool.{Bool, true, false, cond, ◌&&◌, ◌||◌}
use mathlib.Core.List.{List, [], ◌∷◌}
use mathlib.Core.Path.{◌≡◌, refl, sym, ap, ◌∙◌}
use native.Mathlib.Omega.{arith}
use borrow.Author.Tests.{eq-eqb, eqb-true, eqb-false, le-ltb}
use lib.Dec.{ltb, eqb}
use lib.ListN.{length, get_or, set, length-set}
use lib.Seq.{get_or-set_same, get_or-set_other}
use Rattle.base.proofs.BytesLaws.{same_eq}
use Rattle.base.specs.Bytes.{byte_at, part, same}
use Rattle.sids.proofs.SidLaws.{SidAt, sid_at}
use Rattle.sids.specs.Sid.{sid_end}
use Rattle.records.specs.Crowd.{Member}
use Rattle.passes.specs.Chains.{cell_of, to_in, next_in, last_in, member_in, sits_in, near, row, chain, shown_under}
use Rattle.passes.specs.Chains.{Tables, tables, linked}
use Rattle.seats.specs.Key.{key_of, last_of}
use Rattle.passes.specs.Matching.{among}
use Rattle.seats.specs.Seats.{seated}
use Rattle.seats.specs.declared.seats.Seat.{Seat}
use Rattle.passes.proofs.CellLaws.{cell_to, cell_next, cell_last, cell_member}
use Rattle.passes.proofs.ChainsLaws.{rest, chain_skip, chain_frame, chain_first}
use Rattle.seats.proofs.KeyLaws.{key_lt}
use Rattle.passes.proofs.RowLaws.{row_first, row_frame}
use Rattle.passes.proofs.SitsLaws.{joined_is}

-- a SID stands in the seat, where anything does
abbrev pub Seated : List ℕ → Seat → Type 0
Seated s x = (x.to ≡ 0 → ⊥) → x.to ≡ sid_end s x.from

-- ---- what holds after the seats below a number, of m: they are found, as f says, by their chains and in the row

pub record Holds (s : List ℕ) (m : ℕ) (t : Tables) (i : ℕ) (f : Bool → List ℕ → Bool) : Type 0 where
  pub heads : length t.heads ≡ 512
  pub seats : length t.seats ≡ m
  pub low : (k : ℕ) → get_or t.heads k 0 < i
  pub says : (allow : Bool) (w : List ℕ) → among allow (shown_under t.heads t.seats s (key_of w)) w ≡ f allow w
  pub rows : (allow : Bool) (w : List ℕ) → among allow (row t.seats s (i - 1)) w ≡ f allow w

abbrev pub With : List ℕ → Seat → (Bool → List ℕ → Bool) → Bool → List ℕ → Bool
With s x f allow w = (same (part s x.from x.to) w && cond allow x.allows x.denies) || f allow w

-- ---- one seat more

set_low : (heads : List ℕ) (k j n : ℕ) → get_or heads j 0 < n → get_or (set heads k n) j 0 < n + 1
set_low [] k j n h = omega arith
set_low (y ∷ ys) zero zero n h = omega arith
set_low (y ∷ ys) zero (suc j) n h = omega arith
set_low (y ∷ ys) (suc k) zero n h = omega arith
set_low (y ∷ ys) (suc k) (suc j) n h = set_low ys k j n h

-- a test or the rest
first_or : (b r : Bool) → cond b true r ≡ (b || r)
first_or true r = refl
first_or false r = refl

module _ (s seats : List ℕ) (i : ℕ) (few : i < length seats) (c : ℕ) where
  abbrev after : List ℕ
  after = set seats i c

  -- where a chain may start from, in the new table
  wide : length after ≡ length seats
  wide = length-set seats i c

  -- a chain of earlier seats, whatever stands at the number
  earlier : (h : ℕ) → h < i → chain after s (length after - 1) h ≡ chain seats s (length seats - 1) h
  earlier h l =
      chain_skip after s (length after - 1) h (omega (arith, wide))
      ∙ chain_frame seats s i c h h l
      ∙ sym (chain_skip seats s (length seats - 1) h (omega arith))

  module _ (allow : Bool) (w : List ℕ) (f : Bool) (rows : among allow (row seats s (i - 1)) w ≡ f) (some : i ≡ 0 → ⊥) where
    here : c ≡ get_or after i 0
    here = sym (get_or-set_same seats i c 0 few)

    -- the row of earlier seats
    below : among allow (row after s (i - 1)) w ≡ f
    below = ap (λ (l : List Member). among allow l w) (row_frame seats s i c (i - 1) (omega (arith, some))) ∙ rows

    -- the row with the number: its own member, then the earlier ones
    whole : among allow (row after s i) w ≡ cond (sits_in allow s c w) true f
    whole =
        ap (λ (l : List Member). among allow l w) (row_first after s i (i - 1) c (omega (arith, some)) here)
        ∙ joined_is allow s c w (row after s (i - 1))
        ∙ ap (λ (b : Bool). cond (sits_in allow s c w) true b) below

    -- the chain of the number: its own member, then the earlier ones
    newest : (h : ℕ) → h < i → next_in c ≡ h → among allow (chain seats s (length seats - 1) h) w ≡ f →
        among allow (chain after s (length after - 1) i) w ≡ cond (sits_in allow s c w) true f
    newest h l n says =
        ap (λ (q : List Member). among allow q w)
        (chain_skip after s (length after - 1) i (omega (arith, wide)) ∙ chain_first after s i (i - 1) c (omega (arith, some)) here)
        ∙ joined_is allow s c w (rest after s i (i - 1) c)
        ∙ ap (λ (b : Bool). cond (sits_in allow s c w) true b) (go (near i (next_in c)))
      where
        chained_on : among allow (chain after s (i - 1) (next_in c)) w ≡ f
        chained_on =
            ap (λ (k : ℕ). among allow (chain after s (i - 1) k) w) n
            ∙ ap (λ (q : List Member). among allow q w)
            (chain_frame seats s i c (i - 1) h (omega (arith, some))
            ∙ chain_skip seats s (i - 1) h (omega arith)
            ∙ sym (chain_skip seats s (length seats - 1) h (omega arith)))
            ∙ says

        go : (b : Bool) → among allow (cond b (row after s (i - 1)) (chain after s (i - 1) (next_in c))) w ≡ f
        go true = below
        go false = chained_on

module _ (s : List ℕ) (short : length s ≤ 32768) (m : ℕ) (narrow : m ≤ 512) (t : Tables) (i : ℕ) (f : Bool → List ℕ → Bool)
    (o : Holds s m t i f) (few : i < m) (x : Seat) (some : x.to ≡ 0 → ⊥) (stands : Seated s x) where
  abbrev sid : List ℕ
  sid = part s x.from x.to

  abbrev own : ℕ
  own = key_of sid

  abbrev before : ℕ
  before = get_or t.heads own 0

  abbrev c : ℕ
  c = cell_of x.from x.to before x.allows x.denies (last_of sid)

  -- the numbers begin at 1
  counted : i ≡ 0 → ⊥
  counted z = let l = o.low own in omega arith

  inside : i < length t.seats
  inside = omega (arith, few, o.seats)

  -- where the SID ends
  record Ends : Type 0 where
    words : ℕ
    small : words < 32
    low : x.from < 32768
    inside : x.to ≤ length s
    ends : x.to ≡ x.from + 4 * words

  ends : Ends
  ends =
      let a : SidAt s x.from = sid_at s x.from (λ z. some (stands some ∙ z)) in
      let e : x.to ≡ sid_end s x.from = stands some in
      let p = a.ends in
      let q = a.few in
      let r = a.whole in
      record { words = 2 + byte_at s (x.from + 1); small = omega arith; low = omega arith; inside = omega arith; ends = omega arith }

  near_lt : before < 512
  near_lt = let l = o.low own in omega arith

  next_is : next_in c ≡ before
  next_is = let z = ends in
      cell_next x.from x.to before x.allows x.denies (last_of sid) z.words z.low z.small z.ends near_lt

  -- the cell's identity is the seat's
  sits_is : (allow : Bool) (w : List ℕ) → sits_in allow s c w ≡ (same sid w && cond allow x.allows x.denies)
  sits_is allow w =
      let z = ends in
      let d : to_in c ≡ x.to =
      cell_to x.from x.to before x.allows x.denies (last_of sid) z.words z.low z.small z.ends near_lt in
      let l : last_in c ≡ last_of sid =
      cell_last x.from x.to before x.allows x.denies (last_of sid) z.words z.low z.small z.ends near_lt in
      let y : member_in s c ≡ seated s x =
      cell_member x.from x.to before x.allows x.denies (last_of sid) z.words z.low z.small z.ends near_lt s in
      held allow w (member_in s c) y (le-ltb (length s) (to_in c) (omega (arith, z.inside, d)))
      (eq-eqb (last_in c) (last_of (member_in s c).sid) (l ∙ ap (λ (v : Member). last_of v.sid) (sym y)))
    where
      held : (allow : Bool) (w : List ℕ) (y : Member) → y ≡ seated s x → ltb (length s) (to_in c) ≡ false →
          eqb (last_in c) (last_of y.sid) ≡ true →
          (cond (ltb (length s) (to_in c)) false (eqb (last_in c) (last_of y.sid)) && (same y.sid w && cond allow y.allows y.denies))
          ≡ (same sid w && cond allow x.allows x.denies)
      held allow w y e p q = rw (p, q, e)

  -- under the key of the new SID
  mine : (allow : Bool) (w : List ℕ) → key_of w ≡ own →
      among allow (shown_under (set t.heads own i) (set t.seats i c) s (key_of w)) w ≡ With s x f allow w
  mine allow w e =
      let h : get_or (set t.heads own i) (key_of w) 0 ≡ i =
      ap (λ (k : ℕ). get_or (set t.heads own i) k 0) e
      ∙ get_or-set_same t.heads own i 0 (omega (arith, o.heads, key_lt sid)) in
      ap (λ (k : ℕ). among allow (chain (set t.seats i c) s (length (set t.seats i c) - 1) k) w) h
      ∙ newest s t.seats i inside c allow w (f allow w) (o.rows allow w) counted before (o.low own) next_is
      (ap (λ (k : ℕ). among allow (shown_under t.heads t.seats s k) w) (sym e) ∙ o.says allow w)
      ∙ first_or (sits_in allow s c w) (f allow w)
      ∙ ap (λ (b : Bool). b || f allow w) (sits_is allow w)

  -- under every other key
  others : (allow : Bool) (w : List ℕ) → (key_of w ≡ own → ⊥) →
      among allow (shown_under (set t.heads own i) (set t.seats i c) s (key_of w)) w ≡ With s x f allow w
  others allow w d =
      ap (λ (k : ℕ). among allow (chain (set t.seats i c) s (length (set t.seats i c) - 1) k) w)
      (get_or-set_other t.heads own (key_of w) i 0 d)
      ∙ ap (λ (l : List Member). among allow l w)
      (earlier s t.seats i inside c (get_or t.heads (key_of w) 0) (o.low (key_of w)))
      ∙ o.says allow w
      ∙ go (same sid w) refl
    where
      go : (b : Bool) → same sid w ≡ b → f allow w ≡ ((b && cond allow x.allows x.denies) || f allow w)
      go true p = absurd (d (sym (ap key_of (same_eq sid w p))))
      go false p = refl

  held_on : Holds s m (tables (set t.heads own i) (set t.seats i c)) (i + 1) (With s x f)
  held_on = record {
    heads = length-set t.heads own i ∙ o.heads;
    seats = length-set t.seats i c ∙ o.seats;
    low = λ k. set_low t.heads own k i (o.low k);
    says = λ allow w. by allow w (eqb (key_of w) own) refl;
    rows = λ allow w.
        let z : i + 1 - 1 ≡ i = omega arith in
        ap (λ (k : ℕ). among allow (row (set t.seats i c) s k) w) z
        ∙ whole s t.seats i inside c allow w (f allow w) (o.rows allow w) counted
        ∙ first_or (sits_in allow s c w) (f allow w)
        ∙ ap (λ (b : Bool). b || f allow w) (sits_is allow w);
  }
    where
      by : (allow : Bool) (w : List ℕ) (b : Bool) → eqb (key_of w) own ≡ b →
          among allow (shown_under (set t.heads own i) (set t.seats i c) s (key_of w)) w ≡ With s x f allow w
      by allow w true e = mine allow w (eqb-true (key_of w) own e)
      by allow w false e = others allow w (eqb-false (key_of w) own e)

  pub linked_holds : Holds s m (linked s t i x) (i + 1) (With s x f)
  unfolding linked
  linked_holds = let z : i % 65536 ≡ i = omega arith in rw z held_on
