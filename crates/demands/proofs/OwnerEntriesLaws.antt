-- Request 102: which lists take the owner's two rights away, exactly. named_by found_in_lem named_when; one way each: named unnamed.
-- Assumes nothing.
use Prim.Native.Nat.{ℕ}
use mathlib.Core.Path.{◌≡◌, refl, ap, ◌∙◌}
use mathlib.Core.List.{List, [], ◌∷◌, ◌++◌}
use mathlib.Core.Bool.{Bool, true, false, cond, not, ◌&&◌}
use mathlib.Core.Logic.{◌↔◌}
use native.Mathlib.Omega.{arith}
use Rattle.base.specs.Bits.{has}
use Rattle.base.specs.Bytes.{same}
use Rattle.base.proofs.BytesLaws.{same_eq, eq_same}
use Rattle.sids.specs.Sid.{owner_rights}
use Rattle.lists.specs.Acl.{Entry}
use Rattle.passes.specs.NormalEvaluation.{counts, names_owner}
use Rattle.demands.specs.OwnerEntries.{OwnerEntry}

named_by : (before : List Entry) (e : Entry) (after : List Entry) → e.sid ≡ owner_rights → has e.flags 0x08 ≡ false →
    names_owner (before ++ e ∷ after) ≡ true
unfolding names_owner
named_by [] e after s f = rw (f, eq_same e.sid owner_rights s)
named_by (x ∷ before) e after s f = rw (named_by before e after s f) (either (counts x && same x.sid owner_rights))
  where
    either : (b : Bool) → cond b true true ≡ true
    either true = refl
    either false = refl

found_in_lem : (es : List Entry) → names_owner es ≡ true → OwnerEntry es
unfolding names_owner
found_in_lem [] e = let z : ◌≡◌ {A = ℕ} 0 1 = cc in absurd (omega arith)
found_in_lem (x ∷ es) e = go (found_in_lem es) (has x.flags 0x08) (same x.sid owner_rights) refl refl e
  where
    later : OwnerEntry es → OwnerEntry (x ∷ es)
    later o =
        record {
          before = x ∷ o.before;
          entry = o.entry;
          after = o.after;
          split = ap (λ (l : List Entry). x ∷ l) o.split;
          names = o.names;
          counts = o.counts;
        }

    go : (names_owner es ≡ true → OwnerEntry es) → (f s : Bool) → has x.flags 0x08 ≡ f → same x.sid owner_rights ≡ s →
        cond (not f && s) true (names_owner es) ≡ true → OwnerEntry (x ∷ es)
    go rest false true p q e =
        record { before = []; entry = x; after = es; split = refl; names = same_eq x.sid owner_rights q; counts = p }
    go rest false false p q e = later (rest e)
    go rest true s p q e = later (rest e)

pub named : (es : List Entry) → OwnerEntry es → names_owner es ≡ true
named es o = ap names_owner o.split ∙ named_by o.before o.entry o.after o.names o.counts

pub named_when : (es : List Entry) → names_owner es ≡ true ↔ OwnerEntry es
named_when es = (found_in_lem es, named es)

pub unnamed : (es : List Entry) → (OwnerEntry es → ⊥) → names_owner es ≡ false
unnamed es none = go (names_owner es) refl
  where
    go : (b : Bool) → names_owner es ≡ b → b ≡ false
    go true e = absurd (none (found_in_lem es e))
    go false e = refl
