-- A stranger matches nobody of the token, for allow and for deny. The index: known_false (what a stranger is not), among_groups
-- among_listed, deaf_crowd deaf_confined (in the normal pass, and in that of confinement), stranger_missed. Assumes nothing.
use Prim.Native.Nat.{ℕ}
use mathlib.Core.Path.{◌≡◌, refl}
use mathlib.Core.List.{List, [], ◌∷◌, map}
use mathlib.Core.Bool.{Bool, true, false, cond, ◌||◌}
use native.Mathlib.Omega.{arith}
use Rattle.base.specs.Bytes.{same}
use Rattle.sids.specs.Sid.{owner_rights, principal_self}
use Rattle.records.specs.Token.{Group, Token}
use Rattle.records.specs.Crowd.{Member, plain, shown, crowd_of, confined_of}
use Rattle.records.specs.TokenRules.{lists}
use Rattle.passes.specs.Matching.{among, matches}
use Rattle.passes.specs.declared.matching.Hits.{Hits}
use Rattle.demands.specs.Strangers.{in_groups, known}

-- ---- a stranger

pub record Stranger (t : Token) (w : List ℕ) : Type 0 where
  pub user : same t.user w ≡ false
  pub group : in_groups w t.groups ≡ false
  pub confinement : same t.confinement.identity w ≡ false
  pub capability : lists w t.confinement.capabilities ≡ false
  pub owner : same w owner_rights ≡ false
  pub me : same w principal_self ≡ false

or-false : (x y : Bool) → (x || y) ≡ false → (x ≡ false) × (y ≡ false)
or-false true y e = let z : ◌≡◌ {A = ℕ} 0 1 = cc in absurd (omega arith)
or-false false y e = (refl, e)

pub known_false : (t : Token) (w : List ℕ) → known t w ≡ false → Stranger t w
unfolding known
known_false t w e =
    let a = or-false _ _ e in
    let b = or-false _ _ a.0 in
    let c = or-false _ _ b.0 in
    let d = or-false _ _ c.0 in
    let v = or-false _ _ a.1 in
    record { user = d.0; group = d.1; confinement = c.1; capability = b.1; owner = v.0; me = v.1 }

-- ---- it matches nobody

abbrev members : List Group → List Member
members gs = map (λ (g : Group). shown g.sid g.attributes) gs

among_groups : (allow : Bool) (w : List ℕ) (gs : List Group) → in_groups w gs ≡ false → among allow (members gs) w ≡ false
unfolding among in_groups
among_groups allow w [] e = refl
among_groups allow w (g ∷ gs) e = go (among_groups allow w gs) (same g.sid w) refl e
  where
    go : (in_groups w gs ≡ false → among allow (members gs) w ≡ false) → (b : Bool) → same g.sid w ≡ b →
        cond b true (in_groups w gs) ≡ false → among allow (members (g ∷ gs)) w ≡ false
    go rest true p f = let z : ◌≡◌ {A = ℕ} 0 1 = cc in absurd (omega arith)
    go rest false p f = rw p (rest f)

among_listed : (allow : Bool) (w : List ℕ) (ws : List (List ℕ)) → lists w ws ≡ false → among allow (map plain ws) w ≡ false
unfolding among lists
among_listed allow w [] e = refl
among_listed allow w (x ∷ ws) e = go (among_listed allow w ws) (same x w) refl e
  where
    go : (lists w ws ≡ false → among allow (map plain ws) w ≡ false) → (b : Bool) → same x w ≡ b →
        cond b true (lists w ws) ≡ false → among allow (map plain (x ∷ ws)) w ≡ false
    go rest true p f = let z : ◌≡◌ {A = ℕ} 0 1 = cc in absurd (omega arith)
    go rest false p f = rw p (rest f)

-- what a crowd does not match, where it knows nobody but those of a token
unfoldable pub Deaf : Token → List Member → Type 0
Deaf t ms = (h : Hits) (allow : Bool) (w : List ℕ) → Stranger t w → matches allow ms h w ≡ false

pub deaf_crowd : (t : Token) → Deaf t (crowd_of t)
unfolding Deaf matches among
deaf_crowd t h allow w s = rw (s.owner, s.me, s.user) (among_groups allow w t.groups s.group)

pub deaf_confined : (t : Token) → Deaf t (confined_of t)
unfolding Deaf matches among
deaf_confined t h allow w s = rw (s.owner, s.me, s.confinement) (among_listed allow w t.confinement.capabilities s.capability)

pub stranger_missed : (t : Token) (h : Hits) (allow : Bool) (w : List ℕ) → known t w ≡ false → matches allow (crowd_of t) h w ≡ false
unfolding Deaf
stranger_missed t h allow w k = deaf_crowd t h allow w (known_false t w k)
