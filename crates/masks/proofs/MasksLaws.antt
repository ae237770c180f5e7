-- Laws of masks. In order: every mask fits 32 bits; an entry's mask lies within the kind's all bits, so that no entry has 0x01000000 or
-- 0x02000000; the explicit bits are asked, and of a legal question nothing is asked but the kind's all bits and 0x01000000, which is asked
-- only where it is named.
-- Assumes nothing.
use Prim.Native.Nat.{ℕ, ◌^◌, ◌<◌, ◌≤◌}
use mathlib.Core.Bool.{Bool, true, false, cond, ◌&&◌, ◌||◌, and-false, or-false, or-true}
use mathlib.Core.List.{[]}
use mathlib.Core.Path.{◌≡◌, refl, sym, ap, ◌∙◌}
use native.Mathlib.Omega.{arith}
use lib.Bits as B
use lib.Dec.{eqb}
use lib.ListN.{get_or}
use Rattle.base.proofs.BitLaws.{and_bit, or_bit, zero_bit, high_bit}
use Rattle.base.proofs.BitsLaws.{and_within, and_within_r, or_within, or_within_l, or_within_r, covers_within, within_and}
use Rattle.base.specs.Bits.{and, or, flip, has, bit, Within}
use Rattle.masks.specs.KindsAndMasks.{table, right, all_bits, mapped, entry_mask, legal, explicit, asked, system_security, maximum}
use Rattle.base.proofs.BoolLaws.{true_false}

-- ---- what holds of both rows of the table holds of every kind

row_by : (P : ℕ → ℕ → Type 0) (column : ℕ) → P (get_or (get_or table 0 []) column 0) 0x1F01FF → P (get_or (get_or table 1 []) column 0) 0xF003F →
    (kind : ℕ) → P (right kind column) (all_bits kind)
unfolding right
row_by P column x y kind = go (eqb kind 2)
  where
    go : (b : Bool) → P (get_or (get_or table (cond b 1 0) []) column 0) (get_or (get_or table (cond b 1 0) []) 3 0)
    go true = y
    go false = x

-- every right of a kind is one of its all bits
right_within : (column : ℕ) → and (get_or (get_or table 0 []) column 0) 0x1F01FF ≡ get_or (get_or table 0 []) column 0 →
    and (get_or (get_or table 1 []) column 0) 0xF003F ≡ get_or (get_or table 1 []) column 0 → (kind : ℕ) → Within (right kind column) (all_bits kind)
right_within column x y kind = and_within _ _ (row_by (λ r a. and r a ≡ r) column x y kind)

pub all_bits_lt : (kind : ℕ) → all_bits kind < 2 ^ 21
all_bits_lt kind = row_by (λ r a. a < 2 ^ 21) 3 (omega arith) (omega arith) kind

-- ---- parts of a mask

pub within_lt : (k a b : ℕ) → Within a b → b < 2 ^ k → a < 2 ^ k
within_lt k a b w h = let e : and a b ≡ a = within_and a b w in omega (arith, B.and_le_r a b)

pub within_false : (a b i : ℕ) → Within a b → bit b i ≡ false → bit a i ≡ false
unfolding Within
within_false a b i w e = go (bit a i) (w i) e
  where
    go : (x : Bool) → (x ≡ true → bit b i ≡ true) → bit b i ≡ false → x ≡ false
    go true f e = sym (f refl) ∙ e
    go false f e = refl

cond_within : (b : Bool) (a c : ℕ) → Within a c → Within (cond b a 0) c
unfolding Within
cond_within true a c w i e = w i e
cond_within false a c w i e = true_false (sym e ∙ zero_bit i)

-- what the generic bits of a mask turn into
abbrev generic : ℕ → ℕ → ℕ
generic kind m =
    or (cond (has m 0x80000000) (right kind 0) 0)
    (or (cond (has m 0x40000000) (right kind 1) 0)
    (or (cond (has m 0x20000000) (right kind 2) 0)
    (cond (has m 0x10000000) (right kind 3) 0)))

generic_within : (kind m : ℕ) → Within (generic kind m) (all_bits kind)
generic_within kind m =
    or_within _ _ _ (cond_within (has m 0x80000000) (right kind 0) (all_bits kind) (right_within 0 refl refl kind))
    (or_within _ _ _ (cond_within (has m 0x40000000) (right kind 1) (all_bits kind) (right_within 1 refl refl kind))
    (or_within _ _ _ (cond_within (has m 0x20000000) (right kind 2) (all_bits kind) (right_within 2 refl refl kind))
    (cond_within (has m 0x10000000) (right kind 3) (all_bits kind) (right_within 3 refl refl kind))))

-- ---- every mask fits

pub mapped_lt : (kind m : ℕ) → mapped kind m < 2 ^ 32
unfolding mapped
mapped_lt kind m =
    let g : generic kind m < 2 ^ 21 = within_lt 21 (generic kind m) (all_bits kind) (generic_within kind m) (all_bits_lt kind) in
    B.or_lt 32 (and m 0x0FFFFFFF) (generic kind m) (omega (arith, B.and_le_r m 0x0FFFFFFF)) (omega arith)

pub explicit_lt : (kind m : ℕ) → explicit kind m < 2 ^ 32
unfolding explicit
explicit_lt kind m = omega (arith, B.and_le_l (mapped kind m) (flip maximum), mapped_lt kind m)

pub asked_lt : (kind m : ℕ) → asked kind m < 2 ^ 32
unfolding asked
asked_lt kind m = B.or_lt 32 (explicit kind m) _ (explicit_lt kind m) (go (has m maximum))
  where
    go : (b : Bool) → cond b (all_bits kind) 0 < 2 ^ 32
    go true = omega (arith, all_bits_lt kind)
    go false = omega arith

-- ---- an entry's mask

pub entry_mask_within : (kind m : ℕ) → Within (entry_mask kind m) (all_bits kind)
unfolding entry_mask
entry_mask_within kind m = and_within_r (mapped kind m) (all_bits kind)

pub entry_mask_lt : (kind m : ℕ) → entry_mask kind m < 2 ^ 32
entry_mask_lt kind m =
    let h = within_lt 21 (entry_mask kind m) (all_bits kind) (entry_mask_within kind m) (all_bits_lt kind) in omega (arith, h)

-- no generic bit, nor 0x01000000 (bit 24) nor 0x02000000 (bit 25)
pub all_bits_high : (kind i : ℕ) → 21 ≤ i → bit (all_bits kind) i ≡ false
all_bits_high kind i h = high_bit 21 (all_bits kind) i (all_bits_lt kind) h

pub entry_mask_high : (kind m i : ℕ) → 21 ≤ i → bit (entry_mask kind m) i ≡ false
entry_mask_high kind m i h = within_false (entry_mask kind m) (all_bits kind) i (entry_mask_within kind m) (all_bits_high kind i h)

-- ---- a question's bits

pub explicit_asked : (kind m : ℕ) → Within (explicit kind m) (asked kind m)
unfolding asked
explicit_asked kind m = or_within_l (explicit kind m) (cond (has m maximum) (all_bits kind) 0)

mapped_bit : (kind m i : ℕ) → bit (mapped kind m) i ≡ ((bit m i && bit 0x0FFFFFFF i) || bit (generic kind m) i)
unfolding mapped
mapped_bit kind m i = or_bit (and m 0x0FFFFFFF) (generic kind m) i ∙ ap (λ (b : Bool). b || bit (generic kind m) i) (and_bit m 0x0FFFFFFF i)

explicit_bit : (kind m i : ℕ) →
    bit (explicit kind m) i ≡ (((bit m i && bit 0x0FFFFFFF i) || bit (generic kind m) i) && bit (flip maximum) i)
unfolding explicit
explicit_bit kind m i = and_bit (mapped kind m) (flip maximum) i ∙ ap (λ (b : Bool). b && bit (flip maximum) i) (mapped_bit kind m i)

-- 0x02000000 asks, and is not asked for
pub explicit_maximum : (kind m : ℕ) → bit (explicit kind m) 25 ≡ false
unfolding bit
explicit_maximum kind m = explicit_bit kind m 25 ∙ and-false ((bit m 25 && bit 0x0FFFFFFF 25) || bit (generic kind m) 25)

-- "0x01000000 is asked only when named"
pub explicit_security : (kind m : ℕ) → bit (explicit kind m) 24 ≡ bit m 24
unfolding bit
explicit_security kind m =
    explicit_bit kind m 24
    ∙ ap (λ (b : Bool). ((bit m 24 && true) || b) && true)
    (within_false (generic kind m) (all_bits kind) 24 (generic_within kind m) (all_bits_high kind 24 (omega arith)))
    ∙ only (bit m 24)
  where
    only : (b : Bool) → (((b && true) || false) && true) ≡ b
    only true = refl
    only false = refl

asked_high : (kind m i : ℕ) → 21 ≤ i → bit (asked kind m) i ≡ bit (explicit kind m) i
unfolding asked
asked_high kind m i h =
    or_bit (explicit kind m) _ i
    ∙ ap (λ (b : Bool). bit (explicit kind m) i || b) (go (has m maximum))
    ∙ or-false (bit (explicit kind m) i)
  where
    go : (b : Bool) → bit (cond b (all_bits kind) 0) i ≡ false
    go true = all_bits_high kind i h
    go false = zero_bit i

pub asked_maximum : (kind m : ℕ) → bit (asked kind m) 25 ≡ false
asked_maximum kind m = asked_high kind m 25 (omega arith) ∙ explicit_maximum kind m

pub asked_security : (kind m : ℕ) → bit (asked kind m) 24 ≡ bit m 24
asked_security kind m = asked_high kind m 24 (omega arith) ∙ explicit_security kind m

-- a legal question asks for nothing but 0x01000000 and the kind's all bits
special_bit : (i : ℕ) → bit system_security i ≡ (bit 0xF3000000 i && (bit 0x0FFFFFFF i && bit (flip maximum) i))
special_bit i =
    and_bit 0xF3000000 (and 0x0FFFFFFF (flip maximum)) i
    ∙ ap (λ (b : Bool). bit 0xF3000000 i && b) (and_bit 0x0FFFFFFF (flip maximum) i)

pub explicit_within : (kind m : ℕ) → legal kind m ≡ true → Within (explicit kind m) (or system_security (all_bits kind))
unfolding Within legal
explicit_within kind m l i e =
    or_bit system_security (all_bits kind) i ∙ ap (λ (b : Bool). b || bit (all_bits kind) i) (special_bit i)
    ∙ go (bit m i) (bit 0x0FFFFFFF i) (bit (generic kind m) i) (bit (flip maximum) i) (bit 0xF3000000 i) (bit (all_bits kind) i)
    (λ p. sym (or_bit 0xF3000000 (all_bits kind) i) ∙ covers_within (or 0xF3000000 (all_bits kind)) m l i p)
    (generic_within kind m i) (sym (explicit_bit kind m i) ∙ e)
  where
    go : (x f g n s a : Bool) → (x ≡ true → (s || a) ≡ true) → (g ≡ true → a ≡ true) → (((x && f) || g) && n) ≡ true →
        ((s && (f && n)) || a) ≡ true
    go x f g n s true p q r = or-true (s && (f && n))
    go x f true n s false p q r = true_false (sym (q refl))
    go false f false n s false p q r = true_false (sym r)
    go true f false n false false p q r = true_false (sym (p refl))
    go true true false true true false p q r = refl
    go true true false false true false p q r = true_false (sym r)
    go true false false n true false p q r = true_false (sym r)

pub asked_within : (kind m : ℕ) → legal kind m ≡ true → Within (asked kind m) (or system_security (all_bits kind))
unfolding asked
asked_within kind m l =
    or_within _ _ _ (explicit_within kind m l)
    (cond_within (has m maximum) (all_bits kind) (or system_security (all_bits kind)) (or_within_r system_security (all_bits kind)))
