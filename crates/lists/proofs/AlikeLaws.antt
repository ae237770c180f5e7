-- An entry is what its bytes say up to where it is read (`read_to`: the end of its SID, or of its condition), and nothing behind them is
-- read: two lists that agree there have the same entry there. For a reader that holds the front of a list, and for spare bytes (request
-- 101).
-- In order: numbers (u16_alike, u32_alike), an identity (sid_end_alike), a heading (head_end_alike), bytes (part_alike), an entry
-- (sid_alike, condition_alike, ace_alike, entry_alike, content_alike), all entries of a list (entries_alike, spare_unread). Assumes
-- nothing.
use Prim.Native.Nat.{ℕ, zero, suc, ◌+◌, ◌-◌, ◌*◌, ◌%◌, ◌≤◌}
use mathlib.Core.Path.{◌≡◌, refl, sym, ap, ap₂, ◌∙◌}
use mathlib.Core.List.{List, [], ◌∷◌}
use mathlib.Core.Bool.{Bool, true, false, cond}
use native.Mathlib.Omega.{arith}
use lib.ListN.{length}
use lib.Seq.{ext_get_or}
use Rattle.base.specs.Bytes.{byte_at, u16_at, u32_at, part}
use Rattle.conditions.specs.Condition.{shape}
use Rattle.base.proofs.BytesLaws.{length_part}
use Rattle.base.proofs.WordsLaws.{u16_at_in, u32_at_in}
use Rattle.sids.specs.Sid.{sid_end}
use Rattle.lists.specs.Acl.{callback, head_end, named, entry_end, shaped, foreign, scan_of, Entry, ace_at, condition_of}
use Rattle.lists.specs.Acl.{entry_of}
use Rattle.lists.specs.Acl.{entries_at, entries_of}
use Rattle.lists.specs.Spare.{Agree, read_to, AgreeAll, SameButSpare}
use Rattle.lists.specs.declared.acl.Ace.{Ace}
use Rattle.conditions.specs.Scanning.Scan.{Plain}
use Rattle.base.proofs.PartLaws.{byte_of_part}
use Rattle.sids.proofs.SidLaws.{SidAt, sid_at, sid_end_whole}
use Rattle.lists.proofs.AclSteps.{HeadAt, head_end_whole}
use Rattle.lists.proofs.EntrySteps.{entry_end_is, entry_end_whole, entry_end_sid, shown, ace_at_some}
use Rattle.lists.proofs.AclLaws.{ace_found, entries_more, Content, judged_of, content_of_lem, Plainly, plain_of_scan, scan_of_plain}
use Rattle.lists.proofs.AclLaws.{plain_more, plain_cons}
use Rattle.lists.proofs.SpareLaws.{entry_head, AceLies, ace_bounds}

-- ---- one entry

module _ (l m : List ℕ) (at : ℕ) where
  u16_alike : Agree l m at (at + 2) → at + 2 ≤ length l → at + 2 ≤ length m → u16_at m at ≡ u16_at l at
  u16_alike g h k =
      let p : u16_at m at ≡ byte_at m at + 256 * byte_at m (at + 1) = u16_at_in m at k in
      let q : u16_at l at ≡ byte_at l at + 256 * byte_at l (at + 1) = u16_at_in l at h in
      let g0 : byte_at m at ≡ byte_at l at = g at (omega arith) (omega arith) in
      let g1 : byte_at m (at + 1) ≡ byte_at l (at + 1) = g (at + 1) (omega arith) (omega arith) in
      omega arith

  u32_alike : Agree l m at (at + 4) → at + 4 ≤ length l → at + 4 ≤ length m → u32_at m at ≡ u32_at l at
  u32_alike g h k =
      let g0 : byte_at m at ≡ byte_at l at = g at (omega arith) (omega arith) in
      let g1 : byte_at m (at + 1) ≡ byte_at l (at + 1) = g (at + 1) (omega arith) (omega arith) in
      let g2 : byte_at m (at + 2) ≡ byte_at l (at + 2) = g (at + 2) (omega arith) (omega arith) in
      let g3 : byte_at m (at + 3) ≡ byte_at l (at + 3) = g (at + 3) (omega arith) (omega arith) in
      omega (arith, u32_at_in m at k, u32_at_in l at h)

  sid_end_alike : (sid_end l at ≡ 0 → ⊥) → Agree l m at (at + 2) → sid_end l at ≤ length m → sid_end m at ≡ sid_end l at
  sid_end_alike h g k =
      let s : SidAt l at = sid_at l at h in
      let g0 : byte_at m at ≡ byte_at l at = g at (omega arith) (omega arith) in
      let g1 : byte_at m (at + 1) ≡ byte_at l (at + 1) = g (at + 1) (omega arith) (omega arith) in
      let w : sid_end m at ≡ at + 8 + 4 * byte_at m (at + 1) = sid_end_whole m at (g0 ∙ s.one) (omega arith) (omega arith) in
      omega arith

head_end_alike : (l m : List ℕ) (at : ℕ) → HeadAt l at → Agree l m at (at + 4) → head_end l at ≤ length m → head_end m at ≡ head_end l at
head_end_alike l m at d g k =
    let e : head_end l at ≡ at + u16_at l (at + 2) = d.ends in
    let b : 4 ≤ u16_at l (at + 2) = d.small in
    let c : at + u16_at l (at + 2) ≤ length l = d.whole in
    let u : u16_at m (at + 2) ≡ u16_at l (at + 2) =
    u16_alike l m (at + 2) (λ i x y. g i (omega arith) (omega arith)) (omega arith) (omega arith) in
    let n : head_end m at ≡ at + u16_at m (at + 2) =
    head_end_whole m at (ap (λ (x : ℕ). x % 4) u ∙ d.four) (omega arith) (omega arith) in
    omega arith

part_alike : (l m : List ℕ) (a e : ℕ) → a ≤ e → e ≤ length l → e ≤ length m → Agree l m a e → part m a e ≡ part l a e
part_alike l m a e h p q g =
    let n : length (part m a e) ≡ e - a = length_part m a e h q in
    ext_get_or 0 (part m a e) (part l a e) (n ∙ sym (length_part l a e h p))
    (λ i k. byte_of_part m a e i (omega arith) ∙ g (a + i) (omega arith) (omega arith) ∙ sym (byte_of_part l a e i (omega arith)))

-- the fields of an entry, one by one
found_alike : (l m : List ℕ) (at : ℕ) → byte_at m at ≡ byte_at l at → byte_at m (at + 1) ≡ byte_at l (at + 1) →
    u32_at m (at + 4) ≡ u32_at l (at + 4) → sid_end m (at + 8) ≡ sid_end l (at + 8) → entry_end true m at ≡ entry_end true l at →
    shown m at ≡ shown l at
found_alike l m at a b c d e =
    λ i. record { kind = a i; flags = b i; mask = record { 0 = c i }; from = at + 8; to = d i; next = e i }

-- an entry of a list, and another list with the same bytes there and room for the entry
module _ (l m : List ℕ) (at : ℕ)
    (h : (ace_at l at).next ≡ 0 → ⊥) (r : Agree l m at (read_to (ace_at l at))) (k : (ace_at l at).next ≤ length m) where
  -- up to the end of its SID, and a callback entry as a whole
  sid_alike : Agree l m at (ace_at l at).to
  sid_alike =
      let a : AceLies l at = ace_bounds l at h in
      go (callback (ace_at l at).kind) r a.fits
    where
      go : (t : Bool) → Agree l m at (cond t (ace_at l at).next (ace_at l at).to) → (ace_at l at).to ≤ (ace_at l at).next →
          Agree l m at (ace_at l at).to
      go true g f = λ i x y. g i x (omega arith)
      go false g f = g

  condition_alike : condition_of m (ace_at l at) ≡ condition_of l (ace_at l at)
  condition_alike =
      let a : AceLies l at = ace_bounds l at h in
      go (callback (ace_at l at).kind) r a.sid a.fits a.inside
    where
      go : (t : Bool) → Agree l m at (cond t (ace_at l at).next (ace_at l at).to) → at + 16 ≤ (ace_at l at).to →
          (ace_at l at).to ≤ (ace_at l at).next → (ace_at l at).next ≤ length l →
          cond t (part m (ace_at l at).to (ace_at l at).next) [] ≡ cond t (part l (ace_at l at).to (ace_at l at).next) []
      go true g s f i = part_alike l m (ace_at l at).to (ace_at l at).next f i k (λ i x y. g i (omega arith) y)
      go false g s f i = refl

  pub ace_alike : ace_at m at ≡ ace_at l at
  ace_alike =
      let a : AceLies l at = ace_bounds l at h in
      let f = ace_found l at h in
      let g = sid_alike in
      let i : ace_at l at ≡ shown l at = ace_at_some l at f.0 f.1 in
      let t : (ace_at l at).to ≡ sid_end l (at + 8) = ap (λ (x : Ace). x.to) i in
      let o : (ace_at l at).next ≡ entry_end true l at = ap (λ (x : Ace). x.next) i in
      let b : entry_end true l at ≡ head_end l at = entry_end_is true l at f.1 in
      let g0 : byte_at m at ≡ byte_at l at = g at (omega arith) (omega arith) in
      let g1 : byte_at m (at + 1) ≡ byte_at l (at + 1) = g (at + 1) (omega arith) (omega arith) in
      let w = u32_alike l m (at + 4) (λ i x y. g i (omega arith) (omega arith)) (omega arith) (omega arith) in
      let s : sid_end m (at + 8) ≡ sid_end l (at + 8) =
      sid_end_alike l m (at + 8) (entry_end_sid l at f.0 f.1) (λ i x y. g i (omega arith) (omega arith)) (omega arith) in
      let d : head_end m at ≡ head_end l at =
      head_end_alike l m at (entry_head l at f.1) (λ i x y. g i (omega arith) (omega arith)) (omega arith) in
      let c : named (byte_at m at) ≡ true = ap named g0 ∙ f.0 in
      let e : entry_end true m at ≡ head_end m at = entry_end_whole m at c (λ z. omega arith) (omega arith) in
      let q : entry_end true m at ≡ entry_end true l at = omega arith in
      ace_at_some m at c (λ z. f.1 (sym q ∙ z)) ∙ found_alike l m at g0 g1 w s q ∙ sym i

  pub entry_alike : entry_of m (ace_at l at) ≡ entry_of l (ace_at l at)
  entry_alike =
      let a : AceLies l at = ace_bounds l at h in
      let f = ace_found l at h in
      let o : (ace_at l at).from ≡ at + 8 = ap (λ (x : Ace). x.from) (ace_at_some l at f.0 f.1) in
      let s : part m (ace_at l at).from (ace_at l at).to ≡ part l (ace_at l at).from (ace_at l at).to =
      part_alike l m (ace_at l at).from (ace_at l at).to (omega arith) (omega arith) (omega arith)
      (λ i x y. sid_alike i (omega arith) y) in
      ap₂
      (λ (w c : List ℕ). record {
        kind = (ace_at l at).kind;
        flags = (ace_at l at).flags;
        mask = (ace_at l at).mask.0;
        sid = w;
        condition = c;
      }) s condition_alike

  -- what is judged of it is the same
  pub content_alike : Content m at ≡ Content l at
  content_alike =
      let x : (ace_at m at).next ≡ (ace_at l at).next = ap (λ (y : Ace). y.next) ace_alike in
      content_of_lem m at (λ z. h (sym x ∙ z))
      ∙ ap (judged_of m) ace_alike
      ∙ ap (λ (c : List ℕ). cond (callback (ace_at l at).kind) (shape c) Plain) condition_alike
      ∙ sym (content_of_lem l at h)

-- ---- all entries

-- what holds of the entries of two lists that agree in them
record Alike (l m : List ℕ) (n at : ℕ) : Type 0 where
  plain : Plainly m n at
  entries : entries_at m n at ≡ entries_at l n at

entries_alike : (l m : List ℕ) → length l ≡ length m → (n at : ℕ) → Plainly l n at → AgreeAll l m n at → Alike l m n at
unfolding shaped foreign entries_at
entries_alike l m e zero at p g = record { plain = record { shape = refl; own = refl }; entries = refl }
entries_alike l m e (suc n) at p g =
    let o = plain_more l n at p in
    let b : (ace_at l at).next ≤ length l = (ace_bounds l at o.some).inside in
    let a : ace_at m at ≡ ace_at l at = ace_alike l m at o.some g.0 (omega arith) in
    let x : (ace_at m at).next ≡ (ace_at l at).next = ap (λ (y : Ace). y.next) a in
    let hm : ((ace_at m at).next ≡ 0 → ⊥) = λ z. o.some (sym x ∙ z) in
    let r = entries_alike l m e n (ace_at l at).next o.rest g.1 in
    record {
      plain =
          plain_cons m n at
          (record { some = hm; content = content_alike l m at o.some g.0 (omega arith) ∙ o.content; rest = rw x r.plain });
      entries =
          entries_more m n at hm
          ∙ ap₂
          (λ (y : Entry) (z : List Entry). y ∷ z)
          (ap (entry_of m) a ∙ entry_alike l m at o.some g.0 (omega arith))
          (ap (entries_at m n) x ∙ r.entries)
          ∙ sym (entries_more l n at o.some);
    }

-- what spare bytes hold is not read: with others in their place an accepted list is accepted, and has the same entries
pub spare_unread : (l m : List ℕ) → scan_of true l ≡ Plain → SameButSpare l m →
    (scan_of true m ≡ Plain) × (entries_of m ≡ entries_of l)
unfolding entries_of
spare_unread l m p s =
    let a = entries_alike l m s.long (u16_at l 4) 8 (plain_of_scan l p) s.entries in
    (scan_of_plain m (rw (sym s.count) a.plain), rw (sym s.count) a.entries)
