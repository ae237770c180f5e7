-- Laws of lists and their entries, for callers: what an accepted list's entries are.
-- In order: the bytes of a list, by its place (acl_of_part); entries one by one (ace_found, entries_stop, entries_more, entries_short); what
-- holds of every entry (All, Sound, entries_sound, Narrow, entries_narrow); a list of plain entries (Plainly, plain_of_scan, Content,
-- judged_of, content_of_lem, OneMore, plain_more, plain_cons), all of which are read (plain_reads_all). The tests one by one are in AclSteps.
-- Assumes nothing.
use Prim.Native.Nat.{ℕ, zero, suc, ◌+◌, ◌-◌, ◌^◌, ◌<◌, ◌≤◌}
use mathlib.Core.Path.{◌≡◌, refl, sym, ap, ◌∙◌}
use mathlib.Core.List.{List, [], ◌∷◌}
use mathlib.Core.Bool.{Bool, true, false, cond}
use native.Mathlib.Omega.{arith}
use lib.ListN.{length}
use lib.Dec.{T, eqb}
use lib.Pow.{are_bytes}
use borrow.Author.Tests.{eq-eqb, ne_eqb, eqb-true, eqb-false}
use Rattle.base.specs.Bytes.{byte_at, u16_at, part}
use Rattle.base.proofs.BoolLaws.{true_false}
use Rattle.base.proofs.BytesLaws.{length_part, bytes_part, byte_lt}
use Rattle.base.proofs.WordsLaws.{u32_at_lt}
use Rattle.sids.specs.Sid.{sid_end, is_sid}
use Rattle.conditions.specs.Scanning.{is_broken, is_foreign}
use Rattle.conditions.specs.Condition.{shape}
use Rattle.lists.specs.Acl.{acl_end, callback, named, entry_end, content_of, shaped, foreign, scanned, scan_of, Entry, ace_at, condition_of}
use Rattle.lists.specs.Acl.{entry_of}
use Rattle.lists.specs.Acl.{entries_at, entries_of}
use Rattle.lists.specs.declared.acl.Ace.{Ace}
use Rattle.conditions.specs.Scanning.{Scan}
use Rattle.conditions.specs.Scanning.Scan.{Broken, Foreign, Plain}
use Rattle.base.proofs.PartLaws.{byte_of_part, u16_of_part}
use Rattle.sids.proofs.SidLaws.{sid_of_part}
use Rattle.lists.proofs.AclSteps.{revised, AclAt, acl_at, acl_end_whole}
use Rattle.lists.proofs.EntrySteps.{content_plain, content_foreign, content_condition, entry_end_sid, ace_at_none, ace_at_foreign}
use Rattle.lists.proofs.EntrySteps.{ace_at_some}

-- ---- the bytes of a list, by its place

pub acl_of_part : (s : List ℕ) (at e : ℕ) → acl_end s at ≡ e → (e ≡ 0 → ⊥) → acl_end (part s at e) 0 ≡ length (part s at e)
acl_of_part s at e q h =
    let a : AclAt s at = acl_at s at (λ z. h (sym q ∙ z)) in
    let n : length (part s at e) ≡ e - at = length_part s at e (omega arith) (omega arith) in
    let z : byte_at (part s at e) 0 ≡ byte_at s at = byte_of_part s at e 0 (omega arith) ∙ ap (byte_at s) (omega arith) in
    let u : u16_at (part s at e) 2 ≡ u16_at s (at + 2) = u16_of_part s at e 2 (omega arith) (omega arith) in
    let w : acl_end (part s at e) 0 ≡ 0 + u16_at (part s at e) 2 =
    acl_end_whole (part s at e) 0 (ap revised z ∙ a.known) (omega arith) (omega arith) in
    omega arith

-- ---- entries, one by one

-- an entry that the code reads is well shaped, and holds a mask and one SID
pub ace_found : (l : List ℕ) (at : ℕ) → ((ace_at l at).next ≡ 0 → ⊥) → (named (byte_at l at) ≡ true) × (entry_end true l at ≡ 0 → ⊥)
ace_found l at h = go (named (byte_at l at)) refl (eqb (entry_end true l at) 0) refl
  where
    go : (t : Bool) → named (byte_at l at) ≡ t → (u : Bool) → eqb (entry_end true l at) 0 ≡ u →
        (named (byte_at l at) ≡ true) × (entry_end true l at ≡ 0 → ⊥)
    go false e u f = absurd (h (ap (λ (x : Ace). x.next) (ace_at_foreign l at e)))
    go true e true f = absurd (h (ap (λ (x : Ace). x.next) (ace_at_none l at (eqb-true _ _ f))))
    go true e false f = (e, eqb-false _ _ f)

module _ (l : List ℕ) (n at : ℕ) where
  pub entries_stop : (ace_at l at).next ≡ 0 → entries_at l (suc n) at ≡ []
  unfolding entries_at
  entries_stop h = rw (eq-eqb (ace_at l at).next 0 h)

  pub entries_more : ((ace_at l at).next ≡ 0 → ⊥) → entries_at l (suc n) at ≡ entry_of l (ace_at l at) ∷ entries_at l n (ace_at l at).next
  unfolding entries_at
  entries_more h = rw (ne_eqb (ace_at l at).next 0 h)

-- no more of them are read than are counted
pub entries_short : (l : List ℕ) → length (entries_of l) ≤ u16_at l 4
unfolding entries_of entries_at
entries_short l = go (u16_at l 4) 8
  where
    go : (n at : ℕ) → length (entries_at l n at) ≤ n
    go zero at = omega arith
    go (suc n) at = past (eqb (ace_at l at).next 0) (go n (ace_at l at).next)
      where
        past : (t : Bool) → length (entries_at l n (ace_at l at).next) ≤ n →
            length (cond t [] (entry_of l (ace_at l at) ∷ entries_at l n (ace_at l at).next)) ≤ suc n
        past true r = omega arith
        past false r = omega arith

-- ---- what holds of every entry

abbrev pub All : (Entry → Type 0) → List Entry → Type 0
All P [] = Unit
All P (x ∷ l) = P x × All P l

-- allow or deny, with a condition or without, and exactly one SID
pub record Sound (x : Entry) : Type 0 where
  pub kind : named x.kind ≡ true
  pub sid : is_sid x.sid ≡ true

-- what an entry holds of a list of bytes fits its fields
pub record Narrow (x : Entry) : Type 0 where
  pub flags : x.flags < 256
  pub mask : x.mask < 2 ^ 32
  pub sid : T (are_bytes x.sid)

-- what holds of each entry that is read holds of all
each : (P : Entry → Type 0) (l : List ℕ) → ((at : ℕ) → ((ace_at l at).next ≡ 0 → ⊥) → P (entry_of l (ace_at l at))) →
    (n at : ℕ) → All P (entries_at l n at)
unfolding entries_at
each P l f zero at = tt
each P l f (suc n) at = go (eqb (ace_at l at).next 0) refl (each P l f n (ace_at l at).next)
  where
    go : (t : Bool) → eqb (ace_at l at).next 0 ≡ t → All P (entries_at l n (ace_at l at).next) →
        All P (cond t [] (entry_of l (ace_at l at) ∷ entries_at l n (ace_at l at).next))
    go true e r = tt
    go false e r = (f at (eqb-false _ _ e), r)

pub entry_sound : (l : List ℕ) (at : ℕ) → ((ace_at l at).next ≡ 0 → ⊥) → Sound (entry_of l (ace_at l at))
entry_sound l at h =
    let a = ace_found l at h in
    rw (ace_at_some l at a.0 a.1)
    (record { kind = a.0; sid = sid_of_part l (at + 8) (sid_end l (at + 8)) refl (entry_end_sid l at a.0 a.1) })

pub entries_sound : (l : List ℕ) → All Sound (entries_of l)
unfolding entries_of
entries_sound l = each Sound l (entry_sound l) (u16_at l 4) 8

pub entry_narrow : (l : List ℕ) → T (are_bytes l) → (at : ℕ) → ((ace_at l at).next ≡ 0 → ⊥) → Narrow (entry_of l (ace_at l at))
entry_narrow l b at h =
    let a = ace_found l at h in
    rw (ace_at_some l at a.0 a.1)
    (record { flags = byte_lt l (at + 1) b; mask = u32_at_lt l (at + 4) b; sid = bytes_part l (at + 8) (sid_end l (at + 8)) b })

pub entries_narrow : (l : List ℕ) → T (are_bytes l) → All Narrow (entries_of l)
unfolding entries_of
entries_narrow l b = each Narrow l (entry_narrow l b) (u16_at l 4) 8

-- ---- a list of plain entries

-- n entries stand back to back from a place, well shaped, none of them foreign
pub record Plainly (l : List ℕ) (n at : ℕ) : Type 0 where
  pub shape : shaped true l n at ≡ true
  pub own : foreign true l n at ≡ false

pub plain_of_scan : (l : List ℕ) → scan_of true l ≡ Plain → Plainly l (u16_at l 4) 8
unfolding scan_of
plain_of_scan l h = go (shaped true l (u16_at l 4) 8) refl (foreign true l (u16_at l 4) 8) refl h
  where
    go : (t : Bool) → shaped true l (u16_at l 4) 8 ≡ t → (u : Bool) → foreign true l (u16_at l 4) 8 ≡ u →
        scanned t u ≡ Plain → Plainly l (u16_at l 4) 8
    go true e false f q = record { shape = e; own = f }
    go true e true f q = let z : ◌≡◌ {A = ℕ} 0 1 = cc in absurd (omega arith)
    go false e u f q = let z : ◌≡◌ {A = ℕ} 0 1 = cc in absurd (omega arith)

pub scan_of_plain : (l : List ℕ) → Plainly l (u16_at l 4) 8 → scan_of true l ≡ Plain
unfolding scan_of
scan_of_plain l p = rw (p.shape, p.own)

-- what is judged of an entry that is read, beside its shape: a condition
abbrev pub Content : List ℕ → ℕ → Scan
Content l at = content_of true l at (ace_at l at).next

-- it is the condition's, where it has one
abbrev pub judged_of : List ℕ → Ace → Scan
judged_of l a = cond (callback a.kind) (shape (condition_of l a)) Plain

pub content_of_lem : (l : List ℕ) (at : ℕ) → ((ace_at l at).next ≡ 0 → ⊥) → Content l at ≡ judged_of l (ace_at l at)
content_of_lem l at h =
    let f = ace_found l at h in
    rw (ace_at_some l at f.0 f.1) (go (callback (byte_at l at)) refl f.0)
  where
    e : ℕ
    e = entry_end true l at

    go : (t : Bool) → callback (byte_at l at) ≡ t → named (byte_at l at) ≡ true →
        content_of true l at e
        ≡ cond (callback (byte_at l at)) (shape (cond (callback (byte_at l at)) (part l (sid_end l (at + 8)) e) [])) Plain
    go true c n = content_condition l at e n c ∙ rw c refl
    go false c n = content_plain true l at e n c ∙ rw c refl

-- the first of them is read, what it holds is plain, and the others follow it
pub record OneMore (l : List ℕ) (n at : ℕ) : Type 0 where
  pub some : (ace_at l at).next ≡ 0 → ⊥
  pub content : Content l at ≡ Plain
  pub rest : Plainly l n (ace_at l at).next

neither_scan : (c : Scan) → is_broken c ≡ false → is_foreign c ≡ false → c ≡ Plain
neither_scan Broken b f = true_false b
neither_scan Foreign b f = true_false f
neither_scan Plain b f = refl

pub plain_more : (l : List ℕ) (n at : ℕ) → Plainly l (suc n) at → OneMore l n at
unfolding shaped foreign
plain_more l n at p =
    go (eqb e 0) refl (is_broken (content_of true l at e)) refl (is_foreign (content_of true l at e)) refl p.shape p.own
  where
    e : ℕ
    e = entry_end true l at

    more : (eqb e 0 ≡ false) → content_of true l at e ≡ Plain → Plainly l n e → (t : Bool) → named (byte_at l at) ≡ t → OneMore l n at
    more q c r true m =
        let i : (ace_at l at).next ≡ e = ap (λ (x : Ace). x.next) (ace_at_some l at m (eqb-false _ _ q)) in
        record { some = λ z. eqb-false _ _ q (sym i ∙ z); content = ap (content_of true l at) i ∙ c; rest = rw i r }
    more q c r false m = let f = content_foreign true l at e m in let z : ◌≡◌ {A = ℕ} 0 1 = cc in absurd (omega arith)

    go : (u : Bool) → eqb e 0 ≡ u → (b : Bool) → is_broken (content_of true l at e) ≡ b → (f : Bool) → is_foreign (content_of true l at e) ≡ f →
        cond u false (cond b false (shaped true l n e)) ≡ true → cond f true (foreign true l n e) ≡ false → OneMore l n at
    go true q b r f v x y = let z : ◌≡◌ {A = ℕ} 0 1 = true_false (sym x) in absurd (omega arith)
    go false q true r f v x y = let z : ◌≡◌ {A = ℕ} 0 1 = true_false (sym x) in absurd (omega arith)
    go false q false r true v x y = let z : ◌≡◌ {A = ℕ} 0 1 = true_false y in absurd (omega arith)
    go false q false r false v x y =
        more q (neither_scan (content_of true l at e) r v) (record { shape = x; own = y }) (named (byte_at l at)) refl

-- and the other way
pub plain_cons : (l : List ℕ) (n at : ℕ) → OneMore l n at → Plainly l (suc n) at
unfolding shaped foreign
plain_cons l n at o =
    let f = ace_found l at o.some in
    let i : (ace_at l at).next ≡ entry_end true l at = ap (λ (x : Ace). x.next) (ace_at_some l at f.0 f.1) in
    let c : content_of true l at (entry_end true l at) ≡ Plain = ap (content_of true l at) (sym i) ∙ o.content in
    let q : Plainly l n (entry_end true l at) = rw (sym i) o.rest in
    record {
      shape = rw (ne_eqb (entry_end true l at) 0 f.1, c) q.shape;
      own = rw c q.own;
    }

pub plain_reads : (l : List ℕ) (n at : ℕ) → Plainly l n at → length (entries_at l n at) ≡ n
unfolding entries_at
plain_reads l zero at p = refl
plain_reads l (suc n) at p =
    let m = plain_more l n at p in
    rw (ne_eqb (ace_at l at).next 0 m.some) (ap suc (plain_reads l n (ace_at l at).next m.rest))

-- every entry of an accepted list is read, as many as its count says
pub plain_reads_all : (l : List ℕ) → scan_of true l ≡ Plain → length (entries_of l) ≡ u16_at l 4
unfolding entries_of
plain_reads_all l h = plain_reads l (u16_at l 4) 8 (plain_of_scan l h)
