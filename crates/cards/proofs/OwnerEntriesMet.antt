-- Request 102 worked, by computation: a foreman's folder with an entry for S-1-3-4, inherit-only (flags 0x0B) or inherited (0x13), in the
-- descriptor's list, in a rule's effective and in its staged one. keeps, loses: what `owner_keeps` and `owner_loses` ask for is met.
-- Assumes nothing.
use Prim.Native.Nat.{ℕ}
use mathlib.Core.Path.{◌≡◌, refl, ap}
use mathlib.Core.List.{List, [], ◌∷◌, ◌++◌}
use mathlib.Core.Bool.{true, false}
use native.Mathlib.Omega.{arith}
use Rattle.base.specs.Bits.{and, Within}
use Rattle.masks.specs.KindsAndMasks.{asked}
use Rattle.passes.specs.NormalEvaluation.{Dacl}
use Rattle.policy.specs.Rules.{Lists}
use Rattle.access.specs.Status.{Question, dacl_in, checked}
use Rattle.answers.specs.declared.answer.Answer.{Answer}
use Rattle.demands.specs.OwnerEntries.{OwnerEntry, GoesBy, OwnerAsks, owners_rights, its_list, by_object}
use Rattle.demands.specs.OwnerEntries.GoesBy.{descriptors, rules}
use Rattle.demands.proofs.OwnerEntriesLaws.{named_when}
use Rattle.demands.proofs.OwnersRightsLaws.{owner_keeps, owner_loses}
use Rattle.cards.specs.Cards.{asks, stepwise, given, TW, D}
use Rattle.cards.proofs.Opened.{the_page}

-- a list of one entry, which denies S-1-3-4 nothing, with these flags
abbrev list : ℕ → List ℕ → List ℕ
list f rest =
    2 ∷ 0 ∷ 28 ∷ 0 ∷ 1 ∷ 0 ∷ 0 ∷ 0 ∷ 1 ∷ f ∷ 20 ∷ 0 ∷ 0 ∷ 0 ∷ 0 ∷ 0 ∷ 1 ∷ 1 ∷ 0 ∷ 0 ∷ 0 ∷ 0 ∷ 0 ∷ 3 ∷ 4 ∷ 0 ∷ 0 ∷ 0 ∷ rest

-- W, who owns the folder, asks for both rights
abbrev folder : ℕ → Question
folder f =
    asks 1 0x60000 TW []
    (1 ∷ 0 ∷ 4 ∷ 128 ∷ 20 ∷ 0 ∷ 0 ∷ 0 ∷ 0 ∷ 0 ∷ 0 ∷ 0 ∷ 0 ∷ 0 ∷ 0 ∷ 0 ∷ 32 ∷ 0 ∷ 0 ∷ 0
    ∷ 1 ∷ 1 ∷ 0 ∷ 0 ∷ 0 ∷ 0 ∷ 0 ∷ 5 ∷ 7 ∷ 0 ∷ 0 ∷ 0 ∷ list f [])
    []

-- the same of a descriptor that does not name S-1-3-4, under a rule whose effective list does, and whose staged one does
abbrev house : ℕ → ℕ → Question
house f g =
    asks 1 0x60000 TW [] D
    (1 ∷ 1 ∷ 0 ∷ 0 ∷ 0
    ∷ 0 ∷ 0 ∷ 0 ∷ 0 ∷ 28 ∷ 0 ∷ 0 ∷ 0 ∷ list f (0 ∷ 0 ∷ 0 ∷ 0 ∷ 28 ∷ 0 ∷ 0 ∷ 0 ∷ list g (0 ∷ 0 ∷ 0 ∷ 0 ∷ [])))

pub record Instances : Type 0 where
  pub folder_kept : checked (folder 0x0B) ≡ given 0x60000 true false
  pub folder_lost : checked (folder 0x13) ≡ given 0 false false
  pub rule_kept : checked (house 0x0B 0x0B) ≡ given 0x60000 true false
  pub rule_lost : checked (house 0x13 0x13) ≡ stepwise 0x60000 0x60000 0 0 false false
  pub staged_lost : checked (house 0x0B 0x13) ≡ given 0x60000 true true
  pub staged_kept : checked (house 0x13 0x0B) ≡ stepwise 0x60000 0x60000 0 0 false true
  pub folder_apart : by_object (folder 0x0B) ≡ given 0x60000 true false
  pub owner_asks : OwnerAsks (folder 0x0B)
  pub counted : OwnerEntry (dacl_in (folder 0x13).descriptor).entries

pub instances : Instances
unfolding the_page
instances =
    record {
      folder_kept = refl;
      folder_lost = refl;
      rule_kept = refl;
      rule_lost = refl;
      staged_lost = refl;
      staged_kept = refl;
      folder_apart = refl;
      owner_asks = refl;
      counted =
          record {
            before = [];
            entry =
                record { kind = 1; flags = 0x13; mask = 0; sid = 1 ∷ 1 ∷ 0 ∷ 0 ∷ 0 ∷ 0 ∷ 0 ∷ 3 ∷ 4 ∷ 0 ∷ 0 ∷ 0 ∷ []; condition = [] };
            after = [];
            split = refl;
            names = refl;
            counts = refl;
          };
    }

-- there is no entry that counts in what the first goes by
no_rule_lem : (before : List Lists) (r : Lists) (after : List Lists) → ◌≡◌ {A = List Lists} [] (before ++ r ∷ after) → ⊥
no_rule_lem [] r after e = let z : ◌≡◌ {A = ℕ} 0 1 = cc in absurd (omega arith)
no_rule_lem (x ∷ before) r after e = let z : ◌≡◌ {A = ℕ} 0 1 = cc in absurd (omega arith)

pub none_counts : (d : Dacl) → GoesBy (folder 0x0B) d → OwnerEntry d.entries → ⊥
unfolding the_page
none_counts d descriptors o =
    let n = (named_when (dacl_in (folder 0x0B).descriptor).entries).1 o in
    let z : ◌≡◌ {A = ℕ} 0 1 = cc in
    absurd (omega arith)
none_counts d (rules before r after e b) o = absurd (no_rule_lem before r after e)

pub keeps : Within (and (asked 1 0x60000) (owners_rights (folder 0x0B))) (checked (folder 0x0B)).granted.0
keeps = owner_keeps (folder 0x0B) (ap (λ (a : Answer). a.status) instances.folder_kept) instances.owner_asks none_counts

pub loses : Within (and (checked (folder 0x13)).granted.0 0x60000) (its_list (folder 0x13) (dacl_in (folder 0x13).descriptor))
loses = owner_loses (folder 0x13) _ (ap (λ (a : Answer). a.status) instances.folder_lost) descriptors instances.counted
