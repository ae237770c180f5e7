-- How long the fields of a token are at most, once for both formats: by shape, and where the token keeps the token rules.
-- In order: a sequence (each_short), one that lists a given identity (listed_short), the capabilities, the fields (fields_short,
-- accepted_short). Assumes nothing.
use Prim.Native.Nat.{ℕ, zero, suc, ◌+◌, ◌*◌, ◌^◌, ◌<◌, ◌≤◌}
use mathlib.Core.Path.{◌≡◌, refl, ap, ◌∙◌}
use mathlib.Core.List.{List, [], ◌∷◌, ◌++◌}
use mathlib.Core.Bool.{Bool, true, false, cond, not, ◌&&◌}
use native.Mathlib.Nat.{mul-le-mul_right, mul_comm, mul-suc}
use native.Mathlib.Omega.{arith}
use lib.ListN.{length, length-append}
use borrow.Author.Tests.{not-true, not-false}
use Rattle.base.specs.Bytes.{same}
use Rattle.base.proofs.BytesLaws.{same_eq}
use Rattle.records.specs.Token.{Group, Confined, Token, confined}
use Rattle.records.specs.Shaped.{All, Identity, ShapedGroup, Confinement, Shaped}
use Rattle.records.specs.TokenRules.{all_restricted, lists, exempt_alone, virtual_stands, unrestricted, keeps}
use Rattle.records.specs.Fields.{Writer, each, group_bytes, confinement_bytes, people_bytes, fields_bytes}

-- one thing more of length at most b
more_short : (n b x y : ℕ) → x ≤ b → y ≤ n * b → x + y ≤ suc n * b
more_short n b x y h k =
    let e : suc n * b ≡ n * b + b = mul_comm (suc n) b ∙ mul-suc b n ∙ ap (λ (z : ℕ). z + b) (mul_comm b n) in
    omega arith

module _ {A : Type 0} {Ok : A → Type 0} (w : A → List ℕ) (b : ℕ) (short : (a : A) → Ok a → length (w a) ≤ b) where
  pub each_short : (l : List A) → All Ok l → length (each w l) ≤ length l * b
  unfolding each
  each_short [] o = omega arith
  each_short (a ∷ l) o =
      rw (length-append (w a) (each w l))
      (more_short (length l) b (length (w a)) (length (each w l)) (short a o.0) (each_short l o.1))

-- one of the identities is x, and the others are of length at most b
module _ (w : List ℕ → List ℕ) (b : ℕ) (short : (a : List ℕ) → Identity a → length (w a) ≤ b) (x : List ℕ) where
  pub listed_short : (n : ℕ) (l : List (List ℕ)) → length l ≤ suc n → All Identity l → lists x l ≡ true →
      length (each w l) ≤ n * b + length (w x)
  unfolding each lists
  listed_short n [] h o e = let z : ◌≡◌ {A = ℕ} 0 1 = cc in absurd (omega arith)
  listed_short n (a ∷ l) h o e = rw (length-append (w a) (each w l)) (go (same a x) refl n h (λ n' h' e'. listed_short n' l h' o.1 e') e)
    where
      go : (t : Bool) → same a x ≡ t → (n : ℕ) → suc (length l) ≤ suc n →
          ((n' : ℕ) → length l ≤ suc n' → lists x l ≡ true → length (each w l) ≤ n' * b + length (w x)) →
          cond t true (lists x l) ≡ true → length (w a) + length (each w l) ≤ n * b + length (w x)
      go true u n h ih q =
          let f = each_short w b short l o.1 in
          let g = mul-le-mul_right {m = length l} {n = n} b (omega arith) in
          let r : length (w a) ≡ length (w x) = ap (λ (v : List ℕ). length (w v)) (same_eq a x u) in
          omega (arith, f, g)
      go false u zero h ih q = absurd (none l (omega arith) q)
        where
          none : (l : List (List ℕ)) → length l ≤ 0 → lists x l ≡ true → ⊥
          none [] i r = let z : ◌≡◌ {A = ℕ} 0 1 = cc in omega arith
          none (y ∷ l) i r = omega arith
      go false u (suc n) h ih q =
          let f = ih n (omega arith) q in
          let g = short a o.0 in
          let r = more_short n b (length (w a)) (n * b) g (omega arith) in
          omega (arith, f, r)

-- a token that keeps the rules lists S-1-15-2-2 where it is confined
pub restricted : (t : Token) → keeps t ≡ true → confined t.flags && not (lists all_restricted t.confinement.capabilities) ≡ false
unfolding keeps unrestricted
restricted t e = not-true _ (second (not (exempt_alone t) && not (virtual_stands t)) _ e)
  where
    second : (a b : Bool) → a && b ≡ true → b ≡ true
    second true b e = e
    second false b e = let z : ◌≡◌ {A = ℕ} 0 1 = cc in absurd (omega arith)

-- the longest that each part is
pub record Widths : Type 0 where
  pub flags : ℕ
  pub privileges : ℕ
  -- a count of groups, and one of capabilities
  pub many : ℕ
  pub few : ℕ
  pub attributes : ℕ
  pub identity : ℕ

pub record Longest (w : Writer) (m : Widths) : Type 0 where
  pub flags : (v : ℕ) → v ≤ 3 → length (w.flags v) ≤ m.flags
  pub privileges : (v : ℕ) → v < 2 ^ 64 → length (w.privileges v) ≤ m.privileges
  pub many : (v : ℕ) → v ≤ 256 → length (w.count v) ≤ m.many
  pub few : (v : ℕ) → v ≤ 64 → length (w.count v) ≤ m.few
  pub attributes : (v : ℕ) → v < 2 ^ 32 → length (w.attributes v) ≤ m.attributes
  pub identity : (v : List ℕ) → Identity v → length (w.identity v) ≤ m.identity

-- all of it, where the capabilities take c bytes
abbrev pub longest : Widths → ℕ → ℕ
longest m c =
    m.flags + m.privileges + m.identity + m.many + 256 * (m.identity + m.attributes) + (m.identity + m.few + c)

module _ {w : Writer} {m : Widths} (k : Longest w m) where
  group_short : (g : Group) → ShapedGroup g → length (group_bytes w g) ≤ m.identity + m.attributes
  group_short g o =
      let a = k.identity g.sid o.sid in
      let b = k.attributes g.attributes o.attributes in
      rw (length-append (w.identity g.sid) (w.attributes g.attributes)) (omega arith)

  groups_short : (l : List Group) → length l ≤ 256 → All ShapedGroup l →
      length (each (group_bytes w) l) ≤ 256 * (m.identity + m.attributes)
  groups_short l h o =
      let a = each_short (group_bytes w) (m.identity + m.attributes) group_short l o in
      let b = mul-le-mul_right (m.identity + m.attributes) h in
      omega (arith, a, b)

  confinement_short : (c : ℕ) (t : Bool) (x : Confined) → Confinement t x → length (each w.identity x.capabilities) ≤ c →
      length (confinement_bytes w t x) ≤ m.identity + m.few + c
  unfolding confinement_bytes
  confinement_short c false x o h = omega arith
  confinement_short c true x o h =
      let a = k.identity x.identity o.identity in
      let b = k.few (length x.capabilities) o.few in
      rw (
        length-append (w.identity x.identity) (w.count (length x.capabilities) ++ each w.identity x.capabilities),
        length-append (w.count (length x.capabilities)) (each w.identity x.capabilities),
      )
      (omega arith)

  fields_bound : (c : ℕ) (t : Token) → Shaped t → length (each w.identity t.confinement.capabilities) ≤ c →
      length (fields_bytes w t) ≤ longest m c
  unfolding fields_bytes people_bytes
  fields_bound c t o h =
      let a = k.flags t.flags o.flags in
      let b = k.privileges t.privileges o.privileges in
      let d = k.identity t.user o.user in
      let e = k.many (length t.groups) o.few in
      let f = groups_short t.groups o.few o.groups in
      let g = confinement_short c (confined t.flags) t.confinement o.confinement h in
      simp length-append (omega (arith, a, b, d, e, f, g))

  -- by shape
  capabilities_short : (t : Bool) (x : Confined) → Confinement t x → length (each w.identity x.capabilities) ≤ 64 * m.identity
  unfolding each
  capabilities_short false x o = rw o (omega arith)
  capabilities_short true x o =
      let a = each_short w.identity m.identity k.identity x.capabilities o.capabilities in
      let b = mul-le-mul_right m.identity o.few in
      omega (arith, a, b)

  pub fields_short : (t : Token) → Shaped t → length (fields_bytes w t) ≤ longest m (64 * m.identity)
  fields_short t o = fields_bound (64 * m.identity) t o (capabilities_short (confined t.flags) t.confinement o.confinement)

  -- where a confined token lists S-1-15-2-2
  listed_capabilities : (t : Bool) (x : Confined) → Confinement t x → t && not (lists all_restricted x.capabilities) ≡ false →
      length (each w.identity x.capabilities) ≤ 63 * m.identity + length (w.identity all_restricted)
  unfolding each
  listed_capabilities false x o e = rw o (omega arith)
  listed_capabilities true x o e =
      listed_short w.identity m.identity k.identity all_restricted 63 x.capabilities o.few o.capabilities (not-false _ e)

  pub accepted_short : (t : Token) → Shaped t → keeps t ≡ true →
      length (fields_bytes w t) ≤ longest m (63 * m.identity + length (w.identity all_restricted))
  accepted_short t o e =
      fields_bound (63 * m.identity + length (w.identity all_restricted)) t o
      (listed_capabilities (confined t.flags) t.confinement o.confinement (restricted t e))
