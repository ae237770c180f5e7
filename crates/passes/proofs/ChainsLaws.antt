-- Laws of the chains that a search goes through (specs: Chains). In order: a chain by the number that it starts from (chain_out,
-- chain_skip, chain_head); one turn of a search (chain_none, chain_hit, chain-last, chain_near, chain_more); what is not in the chain is
-- not read (chain_frame); whom the tables show is found under its key (among_shown). Assumes nothing.
use Prim.Native.Nat.{ℕ, zero, suc, ◌+◌, ◌-◌, ◌<◌, ◌≤◌}
use mathlib.Core.Bool.{Bool, true, false, cond, ◌&&◌, ◌||◌, or-false}
use mathlib.Core.List.{List, [], ◌∷◌, ◌++◌}
use mathlib.Core.Path.{◌≡◌, refl, sym, ap, ◌∙◌}
use native.Mathlib.Omega.{arith}
use borrow.Author.Tests.{eq-eqb, ne_eqb, eqb-true, eqb-false, lt-ltb, le-ltb, ltb-true, ltb-false}
use lib.Dec.{ltb, eqb}
use lib.ListN.{length, get_or, set}
use lib.Seq.{get_or-set_other}
use Rattle.base.proofs.BytesLaws.{same_eq}
use Rattle.base.specs.Bytes.{same}
use Rattle.records.specs.Crowd.{Member}
use Rattle.passes.specs.Chains.{next_in, sits_in, joined, row, near, chain, head_of, shown_under, keyed, shown_below, shown}
use Rattle.seats.specs.Key.{key_of}
use Rattle.passes.specs.Matching.{among}
use Rattle.seats.proofs.KeyLaws.{key_lt}
use Rattle.passes.proofs.RowLaws.{row_frame}
use Rattle.passes.proofs.SitsLaws.{joined_hit, joined_miss}

-- ---- a chain, by the number that it starts from

module _ (seats s : List ℕ) where
  pub chain_out : (i n : ℕ) → i < n → chain seats s i n ≡ []
  unfolding chain
  chain_out zero n h = refl
  chain_out (suc i) n h = rw (ne_eqb n (suc i) (λ e. omega arith)) (chain_out i n (omega arith))

  pub chain_zero : (n : ℕ) → chain seats s 0 n ≡ []
  unfolding chain
  chain_zero n = refl

  chain_below : (i n : ℕ) → n ≤ i → chain seats s (suc i) n ≡ chain seats s i n
  unfolding chain
  chain_below i n h = rw (ne_eqb n (suc i) (λ e. omega arith))

  pub chain_skip : (i n : ℕ) → n ≤ i → chain seats s i n ≡ chain seats s n n
  chain_skip zero n h = let z : n ≡ 0 = omega arith in rw z
  chain_skip (suc i) n h = go (λ k. chain_skip i n k) (eqb n (suc i)) refl
    where
      go : (n ≤ i → chain seats s i n ≡ chain seats s n n) → (b : Bool) → eqb n (suc i) ≡ b → chain seats s (suc i) n ≡ chain seats s n n
      go on true e = rw (eqb-true n (suc i) e)
      go on false e =
          let d = eqb-false n (suc i) e in
          let k : n ≤ i = omega (arith, d) in
          chain_below i n k ∙ on k

  -- from no number
  pub chain_nought : (i : ℕ) → chain seats s i 0 ≡ []
  chain_nought i = chain_skip i 0 (omega arith) ∙ chain_zero 0

  -- from a number that no seat has
  past : (m h : ℕ) → m ≤ h → chain seats s (m - 1) h ≡ []
  past zero h l = chain_zero h
  past (suc m) h l = chain_out (suc m - 1) h (omega arith)

  -- the first number of a SID's chain leads to the chain of its key
  pub chain_head : (heads w : List ℕ) (n : ℕ) → n ≡ head_of heads seats w → shown_under heads seats s (key_of w) ≡ chain seats s n n
  chain_head heads w n e = go (ltb h (length seats)) refl e
    where
      h : ℕ
      h = get_or heads (key_of w) 0

      go : (b : Bool) → ltb h (length seats) ≡ b → n ≡ cond b h 0 → chain seats s (length seats - 1) h ≡ chain seats s n n
      go true q z =
          chain_skip (length seats - 1) h (omega (arith, ltb-true h (length seats) q)) ∙ sym (ap (λ (m : ℕ). chain seats s m m) z)
      go false q z = past (length seats) h (ltb-false h (length seats) q) ∙ sym (ap (λ (m : ℕ). chain seats s m m) z ∙ chain_zero 0)

  -- what stands at other numbers is not read
  pub chain_frame : (i c j n : ℕ) → j < i → chain (set seats i c) s j n ≡ chain seats s j n
  unfolding chain
  chain_frame i c zero n h = refl
  chain_frame i c (suc j) n h =
      let d : suc j ≡ i → ⊥ = λ e. omega arith in
      rw (
        get_or-set_other seats i (suc j) c 0 d,
        row_frame seats s i c j (omega arith),
        chain_frame i c j (next_in (get_or seats (suc j) 0)) (omega arith),
        chain_frame i c j n (omega arith),
      )

-- ---- the first number, as the code reads it

module _ (heads seats w : List ℕ) (n : ℕ) (read : n ≡ get_or heads (key_of w) 0) where
  pub head_past : length seats ≤ n → head_of heads seats w ≡ 0
  head_past h = rw (← read, le-ltb n (length seats) h)

  pub head_within : n < length seats → head_of heads seats w ≡ n
  head_within h = rw (← read, lt-ltb n (length seats) h)

-- ---- whether the next seat of a chain is near

pub near_none : (n after : ℕ) → after ≡ 0 → near n after ≡ false
near_none n after z = rw (eq-eqb after 0 z)

pub near_by : (n after : ℕ) (b : Bool) → (after ≡ 0 → ⊥) → b ≡ ltb n (after + 16) → b ≡ near n after
near_by n after b k e = rw (ne_eqb after 0 k) e

-- one that is not is below
pub far_below : (n after : ℕ) → (n ≡ 0 → ⊥) → near n after ≡ false → after < n
far_below n after some e = go (eqb after 0) refl
  where
    go : (b : Bool) → eqb after 0 ≡ b → after < n
    go true z = omega (arith, some, eqb-true after 0 z)
    go false z =
        let far : ltb n (after + 16) ≡ false = rw z at e in
        omega (arith, ltb-false n (after + 16) far)

-- ---- one turn of a search, at the number n

-- those after the first seat
abbrev pub rest : List ℕ → List ℕ → ℕ → ℕ → ℕ → List Member
rest seats s n less x = cond (near n (next_in x)) (row seats s less) (chain seats s less (next_in x))

pub chain_first : (seats s : List ℕ) (n less x : ℕ) → n ≡ suc less → x ≡ get_or seats n 0 →
    chain seats s n n ≡ joined s x (rest seats s n less x)
unfolding chain
chain_first seats s n less x one here = rw (here, one, eq-eqb (suc less) (suc less) refl)

module _ (allow : Bool) (seats s w : List ℕ) (n : ℕ) where
  pub chain_none : n ≡ 0 → among allow (chain seats s n n) w ≡ false
  unfolding chain among
  chain_none z = rw z

  module _ (less x : ℕ) (one : n ≡ suc less) (here : x ≡ get_or seats n 0) where
    pub chain_hit : sits_in allow s x w ≡ true → among allow (chain seats s n n) w ≡ true
    chain_hit e =
        ap (λ (l : List Member). among allow l w) (chain_first seats s n less x one here)
        ∙ joined_hit allow s x w (rest seats s n less x) e

    chain_miss : sits_in allow s x w ≡ false → among allow (chain seats s n n) w ≡ among allow (rest seats s n less x) w
    chain_miss e =
        ap (λ (l : List Member). among allow l w) (chain_first seats s n less x one here)
        ∙ joined_miss allow s x w (rest seats s n less x) e

    -- it goes on nearby: with all seats below
    pub chain_near : sits_in allow s x w ≡ false → near n (next_in x) ≡ true →
        among allow (chain seats s n n) w ≡ among allow (row seats s less) w
    chain_near e p = chain_miss e ∙ rw p

    pub chain_more : (next : ℕ) → sits_in allow s x w ≡ false → next ≡ next_in x → near n next ≡ false →
        among allow (chain seats s n n) w ≡ among allow (chain seats s next next) w
    chain_more next e p far =
        let below : next < n = far_below n next (λ z. omega arith) far in
        let q : near n (next_in x) ≡ false = ap (near n) (sym p) ∙ far in
        chain_miss e ∙ rw (q, ← p) (ap (λ (l : List Member). among allow l w) (chain_skip seats s less next (omega arith)))

-- ---- whom the tables show

pub among_append : (allow : Bool) (a b : List Member) (w : List ℕ) → among allow (a ++ b) w ≡ (among allow a w || among allow b w)
unfolding among
among_append allow [] b w = refl
among_append allow (m ∷ a) b w = go (same m.sid w && cond allow m.allows m.denies) (among_append allow a b w)
  where
    go : (t : Bool) → among allow (a ++ b) w ≡ (among allow a w || among allow b w) →
        cond t true (among allow (a ++ b) w) ≡ (cond t true (among allow a w) || among allow b w)
    go true e = refl
    go false e = e

-- the key sieves out nobody who has the SID
among_keyed : (allow : Bool) (k : ℕ) (ms : List Member) (w : List ℕ) →
    among allow (keyed k ms) w ≡ cond (eqb (key_of w) k) (among allow ms w) false
unfolding among keyed
among_keyed allow k [] w = either (eqb (key_of w) k)
  where
    either : (b : Bool) → false ≡ cond b false false
    either true = refl
    either false = refl
among_keyed allow k (m ∷ ms) w = go (same m.sid w) refl (eqb (key_of w) k) refl (among_keyed allow k ms w)
  where
    r : Bool
    r = cond allow m.allows m.denies

    go : (b : Bool) → same m.sid w ≡ b → (c : Bool) → eqb (key_of w) k ≡ c →
        among allow (keyed k ms) w ≡ cond c (among allow ms w) false →
        among allow (cond (eqb (key_of m.sid) k) (m ∷ keyed k ms) (keyed k ms)) w
        ≡ cond c (cond (b && r) true (among allow ms w)) false
    go true p true q on = rw (ap key_of (same_eq m.sid w p), q, p) (ap (λ (b : Bool). cond (true && r) true b) on)
    go true p false q on = rw (ap key_of (same_eq m.sid w p), q) on
    go false p c q on = by (eqb (key_of m.sid) k)
      where
        by : (t : Bool) → among allow (cond t (m ∷ keyed k ms) (keyed k ms)) w ≡ cond c (among allow ms w) false
        by true = rw (p) on
        by false = on

below_is : (allow : Bool) (heads seats s w : List ℕ) (k : ℕ) →
    among allow (shown_below heads seats s k) w ≡ cond (ltb (key_of w) k) (among allow (shown_under heads seats s (key_of w)) w) false
unfolding shown_below among
below_is allow heads seats s w zero = rw (le-ltb (key_of w) 0 (omega arith))
below_is allow heads seats s w (suc k) =
    among_append allow (keyed k (shown_under heads seats s k)) (shown_below heads seats s k) w
    ∙ rw (among_keyed allow k (shown_under heads seats s k) w, below_is allow heads seats s w k) (go (eqb (key_of w) k) refl)
  where
    here : Bool
    here = among allow (shown_under heads seats s (key_of w)) w

    go : (b : Bool) → eqb (key_of w) k ≡ b →
        (cond b (among allow (shown_under heads seats s k) w) false || cond (ltb (key_of w) k) here false) ≡ cond (ltb (key_of w) (suc k))
        here false
    go true e = let z : key_of w ≡ k = eqb-true (key_of w) k e in
        rw (lt-ltb (key_of w) (suc k) (omega arith), le-ltb (key_of w) k (omega arith), ← z) (or-false here)
    go false e = by (ltb (key_of w) k) refl
      where
        by : (t : Bool) → ltb (key_of w) k ≡ t → cond t here false ≡ cond (ltb (key_of w) (suc k)) here false
        by true q = rw (lt-ltb (key_of w) (suc k) (omega (arith, ltb-true (key_of w) k q)))
        by false q = rw (le-ltb (key_of w) (suc k) (omega (arith, ltb-false (key_of w) k q, eqb-false (key_of w) k e)))

-- a SID is shown where the chain of its key has it
pub among_shown : (allow : Bool) (heads seats s w : List ℕ) →
    among allow (shown heads seats s) w ≡ among allow (shown_under heads seats s (key_of w)) w
among_shown allow heads seats s w = below_is allow heads seats s w 512 ∙ rw (lt-ltb (key_of w) 512 (key_lt w))

-- where a search begins
pub among_start : (allow : Bool) (heads seats s w : List ℕ) (n : ℕ) → n ≡ head_of heads seats w →
    among allow (shown heads seats s) w ≡ among allow (chain seats s n n) w
among_start allow heads seats s w n e =
    among_shown allow heads seats s w ∙ ap (λ (l : List Member). among allow l w) (chain_head seats s heads w n e)
