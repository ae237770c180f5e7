-- The fields of a token, once for both formats: where a reader's five parts belong to a writer's (Format), a token that is Shaped is read
-- back from what is written of it (fields-back), and what is read is Shaped and stands there as it is written (fields-form).
-- In order: a group, the confinement, the people, the fields; then how long the fields are (fields_short).
-- Assumes nothing.
use Prim.Native.Nat.{ℕ, ◌+◌, ◌^◌, ◌<◌, ◌≤◌}
use mathlib.Core.Path.{◌≡◌, refl, sym, ap, ap₂}
use mathlib.Core.List.{List, [], ◌++◌}
use mathlib.Core.Bool.{Bool, true, false}
use native.Mathlib.Nat.{add-zero}
use native.Mathlib.Omega.{arith}
use lib.Dec.{T, leb}
use lib.Pow.{are_bytes}
use lib.ListN.{length}
use borrow.Author.Tests.{le-leb, leb-true}
use Rattle.base.specs.Bytes.Read.{some}
use Rattle.base.proofs.PlaceLaws.{length_two, length_three, length_four, Stands, stands_left, stands_right, Formed, formed_none}
use Rattle.base.proofs.PlaceLaws.{formed_append, formed_same}
use Rattle.base.proofs.ReadLaws.{bound, allowed, moved}
use Rattle.records.specs.Token.{Token, confined, unconfined}
use Rattle.records.specs.Shaped.{Identity, ShapedGroup, ShapedConfined, Confinement, Shaped}
use Rattle.records.specs.Fields.{Reader, Writer, each, group_at, confinement_at, people_at, fields_at, group_bytes, confinement_bytes}
use Rattle.records.specs.Fields.{people_bytes, fields_bytes}
use Rattle.records.proofs.FormatLaws.{Kept, many_back, many_form}

-- a reader and a writer whose five parts belong together
pub record Format (f : Reader) (w : Writer) : Type 0 where
  pub flags : Kept f.flags w.flags (λ v. v < 2 ^ 32)
  pub privileges : Kept f.privileges w.privileges (λ v. v < 2 ^ 64)
  pub count : Kept f.count w.count (λ v. v < 2 ^ 32)
  pub attributes : Kept f.attributes w.attributes (λ v. v < 2 ^ 32)
  pub identity : Kept f.identity w.identity Identity

module _ {f : Reader} {w : Writer} (k : Format f w) where
  -- ---- a group

  pub group_kept : Kept (group_at f) (group_bytes w) ShapedGroup
  unfolding group_at
  group_kept =
      record {
        back = λ g o {s} {at} x.
            let a = w.identity g.sid in
            let b = w.attributes g.attributes in
            rw (
              k.identity.back g.sid o.sid (stands_left a b x),
              k.attributes.back g.attributes o.attributes (stands_right a b x),
            )
            (ap (some g) (length_two at a b));
        form = λ {s} {at} b i e.
            let x = bound _ _ _ _ e in
            let y = bound _ _ _ _ x.then in
            let g = k.identity.form b i x.first in
            let h = k.attributes.form b g.0.inside y.first in
            moved (λ g n. Formed s at n (group_bytes w g) × ShapedGroup g) y.then
            (formed_append g.0 h.0, record { sid = g.1; attributes = h.1 });
      }

  -- ---- the confinement

  pub confinement_kept : (t : Bool) → Kept (confinement_at f t) (confinement_bytes w t) (Confinement t)
  unfolding confinement_at confinement_bytes
  confinement_kept false =
      record {
        back = λ c o {s} {at} x. ap₂ some (sym o) (sym (add-zero at));
        form = λ {s} {at} b i e. moved (λ c n. Formed s at n [] × (c ≡ unconfined)) e (formed_none s at i, refl);
      }
  confinement_kept true =
      record {
        back = λ c o {s} {at} x.
            let a = w.identity c.identity in
            let b = w.count (length c.capabilities) in
            let d = each w.identity c.capabilities in
            let y = stands_right a (b ++ d) x in
            let l = o.few in
            rw (
              k.identity.back c.identity o.identity (stands_left a (b ++ d) x),
              k.count.back (length c.capabilities) (omega (arith, l)) (stands_left b d y),
              le-leb (length c.capabilities) 64 l,
              many_back k.identity c.capabilities o.capabilities (stands_right b d y),
            )
            (ap (some c) (length_three at a b d));
        form = λ {s} {at} b i e.
            let x = bound _ _ _ _ e in
            let y = bound _ _ _ _ x.then in
            let l = allowed (leb y.a 64) _ _ _ y.then in
            let z = bound _ _ _ _ l.1 in
            let g = k.identity.form b i x.first in
            let h = k.count.form b g.0.inside y.first in
            let j = many_form k.identity y.a b h.0.inside z.first in
            let o = formed_same (ap w.count (sym j.1)) h.0 in
            moved (λ c n. Formed s at n (confinement_bytes w true c) × ShapedConfined c) z.then (
              formed_append g.0 (formed_append o j.0),
              record { identity = g.1; few = rw j.1 (leb-true _ _ l.0); capabilities = j.2 },
            );
      }

  -- ---- the people, with the flags and privileges that were read before them

  pub people_back : (t : Token) → Shaped t → {s : List ℕ} {at : ℕ} {q : List ℕ} → Stands s at (people_bytes w t) q →
      people_at f t.flags t.privileges s at ≡ some t (at + length (people_bytes w t))
  unfolding people_at people_bytes
  people_back t o {s} {at} x =
      let a = w.identity t.user in
      let b = w.count (length t.groups) in
      let c = each (group_bytes w) t.groups in
      let d = confinement_bytes w (confined t.flags) t.confinement in
      let y = stands_right a (b ++ (c ++ d)) x in
      let z = stands_right b (c ++ d) y in
      let l = o.few in
      rw (
        k.identity.back t.user o.user (stands_left a (b ++ (c ++ d)) x),
        k.count.back (length t.groups) (omega (arith, l)) (stands_left b (c ++ d) y),
        le-leb (length t.groups) 256 l,
        many_back group_kept t.groups o.groups (stands_left c d z),
        (confinement_kept (confined t.flags)).back t.confinement o.confinement (stands_right c d z),
      )
      (ap (some t) (length_four at a b c d))

  pub people_form : (flags privileges : ℕ) {s : List ℕ} {at n : ℕ} {t : Token} → flags ≤ 3 → privileges < 2 ^ 64 → T (are_bytes s) →
      at ≤ length s → people_at f flags privileges s at ≡ some t n →
      Formed s at n (people_bytes w t) × Shaped t × (t.flags ≡ flags) × (t.privileges ≡ privileges)
  unfolding people_at people_bytes
  people_form flags privileges {s} {at} p q b i e =
      let x = bound _ _ _ _ e in
      let y = bound _ _ _ _ x.then in
      let l = allowed (leb y.a 256) _ _ _ y.then in
      let z = bound _ _ _ _ l.1 in
      let v = bound _ _ _ _ z.then in
      let g = k.identity.form b i x.first in
      let h = k.count.form b g.0.inside y.first in
      let j = many_form group_kept y.a b h.0.inside z.first in
      let m = (confinement_kept (confined flags)).form b j.0.inside v.first in
      let o = formed_same (ap w.count (sym j.1)) h.0 in
      moved
      (λ t n. Formed s at n (people_bytes w t) × Shaped t × (t.flags ≡ flags) × (t.privileges ≡ privileges))
      v.then (
        formed_append g.0 (formed_append o (formed_append j.0 m.0)),
        record {
          flags = p;
          privileges = q;
          user = g.1;
          few = rw j.1 (leb-true _ _ l.0);
          groups = j.2;
          confinement = m.1;
        },
        refl,
        refl,
      )

  -- ---- the fields

  pub fields_kept : Kept (fields_at f) (fields_bytes w) Shaped
  unfolding fields_at fields_bytes
  fields_kept =
      record {
        back = λ t o {s} {at} x.
            let a = w.flags t.flags in
            let b = w.privileges t.privileges in
            let c = people_bytes w t in
            let y = stands_right a (b ++ c) x in
            let l = o.flags in
            rw (
              k.flags.back t.flags (omega (arith, l)) (stands_left a (b ++ c) x),
              le-leb t.flags 3 l,
              k.privileges.back t.privileges o.privileges (stands_left b c y),
              people_back t o (stands_right b c y),
            )
            (ap (some t) (length_three at a b c));
        form = λ {s} {at} {n} {a = t} b i e.
            let x = bound _ _ _ _ e in
            let l = allowed (leb x.a 3) _ _ _ x.then in
            let y = bound _ _ _ _ l.1 in
            let g = k.flags.form b i x.first in
            let h = k.privileges.form b g.0.inside y.first in
            let j = people_form x.a y.a (leb-true _ _ l.0) h.1 b h.0.inside y.then in
            let u = formed_same (ap w.flags (sym j.2)) g.0 in
            let v = formed_same (ap w.privileges (sym j.3)) h.0 in
            (formed_append u (formed_append v j.0), j.1);
      }
