-- What an entry is, and what all are, by each test in its order. For `holds`, `entry_end`, `content`, `scan_all` and
-- `ace_at`.
-- In order: an entry's body (holds-..), the whole entry (entry-end-..; judged-.. in a DACL or SACL), the walk over all entries (Left,
-- scan-..), what an entry holds (content-..), the entry that the code reads (stands-.., shown, ace-at-..).
-- Not here: headings, AclSteps; what an accepted list is, AclLaws. Assumes nothing.
use Prim.Native.Nat.{ℕ, suc, ◌+◌, ◌-◌, ◌*◌, ◌<◌, ◌≤◌}
use mathlib.Core.Path.{◌≡◌, refl, sym, ap, ◌∙◌}
use mathlib.Core.List.{List}
use mathlib.Core.Bool.{Bool, true, false, cond, ◌&&◌, ◌||◌}
use native.Mathlib.Omega.{arith}
use lib.Dec.{eqb, leb}
use lib.ListN.{length}
use borrow.Author.Tests.{eq-eqb, ne_eqb, eqb-true, eqb-false, le-leb, lt-leb, leb-true, leb-false}
use Rattle.base.specs.Bytes.{byte_at, u16_at, u32_at, part, found}
use Rattle.base.proofs.FoundLaws.{found_at, place_found}
use Rattle.sids.specs.Sid.{sid_end}
use Rattle.std.specs.Prelude.{Option, None, Some, IsSome, Ok, Err}
use Rattle.conditions.specs.Scanning.{is_broken, is_foreign, scan_result}
use Rattle.conditions.specs.declared.fault.Fault.{Fault}
use Rattle.conditions.specs.declared.fault.Fault.TheVariants as fault
use Rattle.conditions.specs.Condition.{shape}
use Rattle.lists.specs.Acl.{head_end, callback, named, audits, judges, fitting, holds, entry_end, content_of, shaped, foreign}
use Rattle.lists.specs.Acl.{scanned, scan_of, no_ace, ace_at, stands}
use Rattle.lists.specs.declared.acl.Ace.{Ace}
use Rattle.conditions.specs.Scanning.{Scan}
use Rattle.conditions.specs.Scanning.Scan.{Broken, Foreign, Plain}
use Rattle.sids.proofs.SidLaws.{sid_end_other, sid_end_many, sid_end_cut, sid_end_whole, sid_end_bounds}
use Rattle.lists.proofs.AclSteps.{head_end_bounds}
use Rattle.lists.proofs.TypeLaws.{judges_deep, judges_shallow}

-- ---- an entry's body, and the whole entry

module _ (l : List ℕ) (at e : ℕ) where
  pub holds_none : sid_end l (at + 8) ≡ 0 → holds l at e ≡ false
  unfolding holds
  holds_none h = rw (eq-eqb (sid_end l (at + 8)) 0 h)

  pub holds_some : (sid_end l (at + 8) ≡ 0 → ⊥) → holds l at e ≡ fitting (sid_end l (at + 8)) e
  unfolding holds
  holds_some h = rw (ne_eqb (sid_end l (at + 8)) 0 h)

  -- the SID ends inside its own entry
  pub holds_inside : (sid_end l (at + 8) ≡ 0 → ⊥) → sid_end l (at + 8) ≤ e → holds l at e ≡ true
  holds_inside h k = holds_some h ∙ le-leb (sid_end l (at + 8)) e k

  pub holds_fits : (sid_end l (at + 8) ≡ 0 → ⊥) → holds l at e ≡ true → sid_end l (at + 8) ≤ e
  holds_fits h t = leb-true (sid_end l (at + 8)) e (sym (holds_some h) ∙ t)

  -- by the count alone, for an entry that ends inside the list
  module _ (inside : e ≤ length l) where
    pub holds_short : e < at + 16 → holds l at e ≡ false
    holds_short k = go (eqb (sid_end l (at + 8)) 0) refl
      where
        go : (b : Bool) → eqb (sid_end l (at + 8)) 0 ≡ b → holds l at e ≡ false
        go true z = holds_none (eqb-true _ _ z)
        go false z =
            let h = eqb-false _ _ z in
            let s = (sid_end_bounds l (at + 8) h).0 in
            holds_some h ∙ lt-leb (sid_end l (at + 8)) e (omega (arith, s))

    module _ (long : at + 16 ≤ e) where
      pub holds_other : (byte_at l (at + 8) ≡ 1 → ⊥) → holds l at e ≡ false
      holds_other k = holds_none (sid_end_other l (at + 8) (omega arith) k)

      module _ (one : byte_at l (at + 8) ≡ 1) (n : ℕ) (is : n ≡ byte_at l (at + 9)) where
        count_is : byte_at l (at + 8 + 1) ≡ n
        count_is = let p : at + 8 + 1 ≡ at + 9 = omega arith in ap (byte_at l) p ∙ sym is

        pub holds_many : 15 < n → holds l at e ≡ false
        holds_many k = let c = count_is in holds_none (sid_end_many l (at + 8) (omega arith) one (omega (arith, c)))

        pub holds_by_count : n ≤ 15 → holds l at e ≡ leb (at + 16 + 4 * n) e
        holds_by_count few = go (leb (at + 16 + 4 * n) (length l)) refl
          where
            go : (b : Bool) → leb (at + 16 + 4 * n) (length l) ≡ b → holds l at e ≡ leb (at + 16 + 4 * n) e
            go true z =
                let c = count_is in
                let k : at + 16 + 4 * n ≤ length l = leb-true _ _ z in
                let w = sid_end_whole l (at + 8) one (omega (arith, c, few)) (omega (arith, c, k)) in
                let m : sid_end l (at + 8) ≡ at + 16 + 4 * n = omega (arith, w, c) in
                holds_some (λ q. omega (arith, m, q)) ∙ ap (λ (x : ℕ). leb x e) m
            go false z =
                let c = count_is in
                let k : length l < at + 16 + 4 * n = leb-false _ _ z in
                holds_none (sid_end_cut l (at + 8) (omega arith) one (omega (arith, c, few)) (omega (arith, c, k)))
                ∙ sym (lt-leb (at + 16 + 4 * n) e (omega arith))

-- an entry ends where its heading says, or is misshapen
picked : (t u : Bool) (e : ℕ) → (cond t (cond u e 0) e ≡ 0 → ⊥) → cond t (cond u e 0) e ≡ e
picked true true e h = refl
picked true false e h = absurd (h refl)
picked false u e h = refl

module _ (deep : Bool) (l : List ℕ) (at : ℕ) where
  pub entry_end_none : head_end l at ≡ 0 → entry_end deep l at ≡ 0
  unfolding entry_end
  entry_end_none h = go (judges deep (byte_at l at)) (holds l at (head_end l at))
    where
      go : (t u : Bool) → cond t (cond u (head_end l at) 0) (head_end l at) ≡ 0
      go true true = h
      go true false = refl
      go false u = h

  pub entry_end_is : (entry_end deep l at ≡ 0 → ⊥) → entry_end deep l at ≡ head_end l at
  unfolding entry_end
  entry_end_is h = picked (judges deep (byte_at l at)) (holds l at (head_end l at)) (head_end l at) h

  pub entry_end_foreign : judges deep (byte_at l at) ≡ false → entry_end deep l at ≡ head_end l at
  unfolding entry_end
  entry_end_foreign h = rw h

  pub entry_end_judged : judges deep (byte_at l at) ≡ true → entry_end deep l at ≡ cond (holds l at (head_end l at)) (head_end l at) 0
  unfolding entry_end
  entry_end_judged h = rw h

  pub entry_end_bounds : (entry_end deep l at ≡ 0 → ⊥) → (at + 4 ≤ entry_end deep l at) × (entry_end deep l at ≤ length l)
  entry_end_bounds h =
      let e : entry_end deep l at ≡ head_end l at = entry_end_is h in
      let b = head_end_bounds l at (λ q. h (e ∙ q)) in
      let b0 : at + 4 ≤ head_end l at = b.0 in
      let b1 : head_end l at ≤ length l = b.1 in
      (omega arith, omega arith)

  -- an entry that is judged and well shaped holds a SID, which ends inside it
  module _ (j : judges deep (byte_at l at) ≡ true) (h : entry_end deep l at ≡ 0 → ⊥) where
    judged_holds : holds l at (entry_end deep l at) ≡ true
    judged_holds = go (holds l at (head_end l at)) refl
      where
        go : (t : Bool) → holds l at (head_end l at) ≡ t → holds l at (entry_end deep l at) ≡ true
        go true q = ap (holds l at) (entry_end_is h) ∙ q
        go false q = absurd (h (rw (entry_end_judged j, q) refl))

    pub judged_sid : sid_end l (at + 8) ≡ 0 → ⊥
    judged_sid q =
        let f = holds_none l at (entry_end deep l at) q in
        let t = judged_holds in
        let z : ◌≡◌ {A = ℕ} 0 1 = cc in
        omega arith

    pub judged_fits : sid_end l (at + 8) ≤ entry_end deep l at
    judged_fits = holds_fits l at (entry_end deep l at) judged_sid judged_holds

module _ (l : List ℕ) (at : ℕ) where
  -- in a SACL only audit entries are judged
  pub entry_end_shallow : audits (byte_at l at) ≡ false → entry_end false l at ≡ head_end l at
  entry_end_shallow a = entry_end_foreign false l at (judges_shallow (byte_at l at) ∙ a)

  -- in a DACL, an entry of one of the four types
  module _ (n : named (byte_at l at) ≡ true) where
    pub entry_end_named : entry_end true l at ≡ cond (holds l at (head_end l at)) (head_end l at) 0
    entry_end_named = entry_end_judged true l at (judges_deep (byte_at l at) ∙ n)

    -- whose SID ends inside it is well shaped
    pub entry_end_whole : (sid_end l (at + 8) ≡ 0 → ⊥) → sid_end l (at + 8) ≤ head_end l at → entry_end true l at ≡ head_end l at
    entry_end_whole h k = entry_end_named ∙ rw (holds_inside l at (head_end l at) h k) refl

    -- and the other way
    pub entry_end_sid : (entry_end true l at ≡ 0 → ⊥) → sid_end l (at + 8) ≡ 0 → ⊥
    entry_end_sid = judged_sid true l at (judges_deep (byte_at l at) ∙ n)

    pub entry_end_fits : (entry_end true l at ≡ 0 → ⊥) → sid_end l (at + 8) ≤ entry_end true l at
    entry_end_fits = judged_fits true l at (judges_deep (byte_at l at) ∙ n)

-- ---- the walk over all entries

-- what m entries from a place come to, after a foreign type was met or not
abbrev pub Left : Bool → List ℕ → Bool → ℕ → ℕ → Scan
Left deep l met m at = scanned (shaped deep l m at) (met || foreign deep l m at)

pub scan_start : (deep : Bool) (l : List ℕ) → scan_of deep l ≡ Left deep l false (u16_at l 4) 8
unfolding scan_of
scan_start deep l = refl

module _ (deep : Bool) (l : List ℕ) (met : Bool) (m k at : ℕ) where
  pub scan_end : m ≤ k → Left deep l met (m - k) at ≡ cond met Foreign Plain
  unfolding shaped foreign
  scan_end h = let e : m - k ≡ 0 = omega arith in rw e (go met)
    where
      go : (t : Bool) → cond (t || false) Foreign Plain ≡ cond t Foreign Plain
      go true = refl
      go false = refl

  pub scan_broken : k < m → entry_end deep l at ≡ 0 → Left deep l met (m - k) at ≡ Broken
  unfolding shaped
  scan_broken h e = let n : m - k ≡ suc (m - (k + 1)) = omega arith in rw (n, eq-eqb (entry_end deep l at) 0 e)

  module _ (to : ℕ) (ends : to ≡ entry_end deep l at) (some : to ≡ 0 → ⊥) where
    pub scan_spoilt : k < m → is_broken (content_of deep l at to) ≡ true → Left deep l met (m - k) at ≡ Broken
    unfolding shaped
    scan_spoilt h b =
        let n : m - k ≡ suc (m - (k + 1)) = omega arith in
        rw (n, ← ends, ne_eqb to 0 some, b)

    pub scan_more : k < m → is_broken (content_of deep l at to) ≡ false →
        Left deep l met (m - k) at ≡ Left deep l (met || is_foreign (content_of deep l at to)) (m - (k + 1)) to
    unfolding shaped foreign
    scan_more h b =
        let n : m - k ≡ suc (m - (k + 1)) = omega arith in
        rw (n, ← ends, ne_eqb to 0 some, b)
        (ap (scanned (shaped deep l (m - (k + 1)) to))
        (go met (is_foreign (content_of deep l at to)) (foreign deep l (m - (k + 1)) to)))
      where
        go : (t u r : Bool) → (t || cond u true r) ≡ ((t || u) || r)
        go true u r = refl
        go false true r = refl
        go false false r = refl

    -- by what the entry holds: what the code has met after it
    pub scan_plain : k < m → content_of deep l at to ≡ Plain → Left deep l met (m - k) at ≡ Left deep l met (m - (k + 1)) to
    scan_plain h c =
        scan_more h (ap is_broken c)
        ∙ ap (λ (t : Bool). Left deep l t (m - (k + 1)) to) (ap (λ (v : Scan). met || is_foreign v) c ∙ go met)
      where
        go : (t : Bool) → (t || false) ≡ t
        go true = refl
        go false = refl

    pub scan_alien : k < m → content_of deep l at to ≡ Foreign → Left deep l met (m - k) at ≡ Left deep l true (m - (k + 1)) to
    scan_alien h c =
        scan_more h (ap is_broken c)
        ∙ ap (λ (t : Bool). Left deep l t (m - (k + 1)) to) (ap (λ (v : Scan). met || is_foreign v) c ∙ go met)
      where
        go : (t : Bool) → (t || true) ≡ true
        go true = refl
        go false = refl

-- ---- what an entry holds

module _ (deep : Bool) (l : List ℕ) (at e : ℕ) where
  pub content_plain : named (byte_at l at) ≡ true → callback (byte_at l at) ≡ false → content_of deep l at e ≡ Plain
  unfolding content_of
  content_plain n c = rw (n, c) (go deep)
    where
      go : (t : Bool) → cond (t && false) (shape (part l (sid_end l (at + 8)) e)) Plain ≡ Plain
      go true = refl
      go false = refl

  pub content_foreign : named (byte_at l at) ≡ false → content_of deep l at e ≡ Foreign
  unfolding content_of
  content_foreign n = rw n

pub content_shallow : (l : List ℕ) (at e : ℕ) → named (byte_at l at) ≡ true → content_of false l at e ≡ Plain
unfolding content_of
content_shallow l at e n = rw n

pub content_condition : (l : List ℕ) (at e : ℕ) → named (byte_at l at) ≡ true → callback (byte_at l at) ≡ true →
    content_of true l at e ≡ shape (part l (sid_end l (at + 8)) e)
unfolding content_of
content_condition l at e n c = rw (n, c)

-- a place that the code answers, where one is
pub some_found : (n : ℕ) (r : Option ℕ) → r ≡ found n → (n ≡ 0 → ⊥) → IsSome r
some_found n r e h = rw (e, sym (found_at n n refl h)) refl

pub unwrapped : (n : ℕ) (r : Option ℕ) (k : ℕ) → r ≡ found n → r ≡ Some k → k ≡ n
unwrapped n r k e u = sym (place_found n k (sym u ∙ e)).is

-- what the code's answer says of it
pub content_broken : (v : Scan) (f : Fault) → f ≡ fault.Broken → Err f ≡ scan_result v → v ≡ Broken
content_broken Broken f e q = refl
content_broken Foreign f e q = absurd (cc)
content_broken Plain f e q = absurd (cc)

pub content_other : (v : Scan) (f : Fault) → f ≡ fault.Foreign → Err f ≡ scan_result v → v ≡ Foreign
content_other Broken f e q = absurd (cc)
content_other Foreign f e q = refl
content_other Plain f e q = absurd (cc)

pub content_fine : (v : Scan) (u : Unit) → Ok u ≡ scan_result v → v ≡ Plain
content_fine Broken u q = absurd (cc)
content_fine Foreign u q = absurd (cc)
content_fine Plain u q = refl

-- ---- the entry that the code reads

pub stands_none : (a : Ace) → a ≡ no_ace → None ≡ stands a
stands_none a e = rw e

pub stands_some : (a b : Ace) → a ≡ b → (a.next ≡ 0 → ⊥) → Some a ≡ stands b
stands_some a b e h =
    let s : Some a ≡ stands a = rw (ne_eqb a.next 0 h) in
    s ∙ ap stands e

pub stands_not : (a : Ace) → None ≡ stands a → a.next ≡ 0
stands_not a q = go (eqb a.next 0) refl q
  where
    go : (t : Bool) → eqb a.next 0 ≡ t → None ≡ cond t None (Some a) → a.next ≡ 0
    go true e q = eqb-true _ _ e
    go false e q = absurd (cc)

pub stands_is : (a b : Ace) → Some a ≡ stands b → (a ≡ b) × (b.next ≡ 0 → ⊥)
stands_is a b q = go (eqb b.next 0) refl q
  where
    go : (t : Bool) → eqb b.next 0 ≡ t → Some a ≡ cond t None (Some b) → (a ≡ b) × (b.next ≡ 0 → ⊥)
    go true e q = absurd (cc)
    go false e q = (cc, eqb-false _ _ e)

module _ (l : List ℕ) (at : ℕ) where
  pub ace_at_none : entry_end true l at ≡ 0 → ace_at l at ≡ no_ace
  unfolding ace_at
  ace_at_none h = rw (eq-eqb (entry_end true l at) 0 h) (go (named (byte_at l at)))
    where
      go : (t : Bool) → cond t no_ace no_ace ≡ no_ace
      go true = refl
      go false = refl

  pub ace_at_foreign : named (byte_at l at) ≡ false → ace_at l at ≡ no_ace
  unfolding ace_at
  ace_at_foreign h = rw h

  -- the entry where one stands
  abbrev pub shown : Ace
  shown =
      record {
        kind = byte_at l at;
        flags = byte_at l (at + 1);
        mask = record { 0 = u32_at l (at + 4) };
        from = at + 8;
        to = sid_end l (at + 8);
        next = entry_end true l at;
      }

  pub ace_at_some : named (byte_at l at) ≡ true → (entry_end true l at ≡ 0 → ⊥) → ace_at l at ≡ shown
  unfolding ace_at
  ace_at_some n h = rw (n, ne_eqb (entry_end true l at) 0 h)

  -- the entry, from what the code read of it
  pub ace_at_made : (m t e : ℕ) → m ≡ u32_at l (at + 4) → t ≡ sid_end l (at + 8) → e ≡ entry_end true l at →
      named (byte_at l at) ≡ true → (entry_end true l at ≡ 0 → ⊥) →
      ◌≡◌
      {A = Ace}
      (record {
        kind = byte_at l at;
        flags = byte_at l (at + 1);
        mask = record { 0 = m };
        from = at + 8;
        to = t;
        next = e;
      })
      (ace_at l at)
  ace_at_made m t e p q r n h = rw (p, q, r) (sym (ace_at_some n h))
