-- How the code answers of a descriptor (specs: Handed). In order: a part that an offset names (piece_fault, piece_ok, some_there,
-- none_absent, place_sound, alien_sound, none_sound, none_is); what four come to (handed_ownerless, -foreign, -whole); the whole (handed_bad, read_by,
-- read_owner, -group, -sacl, -dacl); each part lies inside (handed_inside); the bytes of a part (bytes_none, bytes_owner, -group, -sacl, -dacl).
-- Assumes nothing.
use Prim.Native.Nat.{ℕ}
use mathlib.Core.Path.{◌≡◌, refl, sym, ap, ◌∙◌}
use mathlib.Core.List.{List, []}
use mathlib.Core.Bool.{Bool, true, false, not}
use lib.ListN.{length}
use Rattle.std.specs.Prelude.{Option, None, Some, Result, Ok, Err, IfOk, is_some, is_none}
use Rattle.base.specs.Bytes.{part}
use Rattle.lists.specs.Descriptor.{Piece, Verdict, heading, bad, absent, alien, place_of, LiesIn, Inside, part_in}
use Rattle.lists.specs.Descriptor.{owner_of, group_of, sacl_of, dacl_of}
use Rattle.lists.specs.Descriptor.{owner_piece, group_piece, sacl_piece, dacl_piece, refused_parts, judged, parts_of}
use Rattle.lists.specs.Descriptor.Piece.{Bad, Absent, At, Alien}
use Rattle.lists.specs.Descriptor.Verdict.{Whole, Misshapen, Ownerless, ForeignEntry}
use Rattle.lists.specs.Handed.{sound, piece_result, place_in, alien_in, refused_by, handed, Within}
use Rattle.lists.specs.declared.descriptor.Extent.{Extent}
use Rattle.lists.specs.declared.descriptor.Found.{Found}
use Rattle.lists.specs.declared.descriptor.Descriptor.{Descriptor}
use Rattle.lists.specs.declared.descriptor.Refusal.{Refusal}
use Rattle.lists.specs.declared.descriptor.Refusal.TheVariants as refusal
use Rattle.lists.proofs.DescriptorSteps.{judged_owner_bad, judged_group_bad, judged_sacl_bad, judged_dacl_bad}
use Rattle.lists.proofs.DescriptorSteps.{judged_ownerless, judged_foreign, judged_whole, parts_refused, parts_judged}
use Rattle.lists.proofs.DescriptorSteps.{part_in_inside}
use Rattle.lists.proofs.DescriptorLaws.{parts_bounds, refused_nothing}

-- ---- a part that an offset names

pub record Faulty (p : Piece) (r : Refusal) : Type 0 where
  pub is : bad p ≡ true
  pub why : r ≡ refusal.Misshapen

pub piece_fault : (p : Piece) (r : Refusal) → Err r ≡ piece_result p → Faulty p r
piece_fault Bad r q = record { is = refl; why = cc }
piece_fault Absent r q = absurd (cc)
piece_fault (At a e) r q = absurd (cc)
piece_fault (Alien a e) r q = absurd (cc)

pub record Fine (p : Piece) (x : Option Found) : Type 0 where
  pub is : bad p ≡ false
  pub what : x ≡ sound p

pub piece_ok : (p : Piece) (x : Option Found) → Ok x ≡ piece_result p → Fine p x
piece_ok Bad x q = absurd (cc)
piece_ok Absent x q = record { is = refl; what = cc }
piece_ok (At a e) x q = record { is = refl; what = cc }
piece_ok (Alien a e) x q = record { is = refl; what = cc }

pub some_there : (p : Piece) (f : Found) → Some f ≡ sound p → absent p ≡ false
some_there Bad f q = absurd (cc)
some_there Absent f q = absurd (cc)
some_there (At a e) f q = refl
some_there (Alien a e) f q = refl

pub none_absent : (p : Piece) → bad p ≡ false → None ≡ sound p → absent p ≡ true
none_absent Bad h q = absurd (cc)
none_absent Absent h q = refl
none_absent (At a e) h q = absurd (cc)
none_absent (Alien a e) h q = absurd (cc)

pub place_sound : (p : Piece) → place_in (sound p) ≡ place_of p
place_sound Bad = refl
place_sound Absent = refl
place_sound (At a e) = refl
place_sound (Alien a e) = refl

pub alien_sound : (p : Piece) → alien_in (sound p) ≡ alien p
alien_sound Bad = refl
alien_sound Absent = refl
alien_sound (At a e) = refl
alien_sound (Alien a e) = refl

pub none_sound : (p : Piece) → bad p ≡ false → is_none (sound p) ≡ absent p
none_sound Bad h = absurd (cc)
none_sound Absent h = refl
none_sound (At a e) h = refl
none_sound (Alien a e) h = refl

pub none_is : (a : Option Found) (n : Bool) → is_some a ≡ not n → n ≡ is_none a
none_is None true q = refl
none_is None false q = absurd (cc)
none_is (Some f) true q = absurd (cc)
none_is (Some f) false q = refl

-- ---- what four come to

module _ (x y z w : Piece) (o g s a : Option Found) (ox : Ok o ≡ piece_result x) (gy : Ok g ≡ piece_result y) (sz : Ok s ≡ piece_result z)
    (aw : Ok a ≡ piece_result w) where
  pub handed_ownerless : o ≡ None → Err refusal.Ownerless ≡ handed (judged x y z w)
  handed_ownerless n =
      let p = piece_ok x o ox in
      sym (ap handed (judged_ownerless x y z w p.is (piece_ok y g gy).is (piece_ok z s sz).is (piece_ok w a aw).is
      (none_absent x p.is (sym n ∙ p.what))))

  module _ (f : Found) (some : o ≡ Some f) where
    there : absent x ≡ false
    there = some_there x f (sym some ∙ (piece_ok x o ox).what)

    of : (b : Bool) → b ≡ alien_in a → b ≡ alien w
    of b e = e ∙ ap alien_in (piece_ok w a aw).what ∙ alien_sound w

    pub handed_foreign : (b : Bool) → b ≡ alien_in a → b ≡ true → Err refusal.ForeignEntry ≡ handed (judged x y z w)
    handed_foreign b e t =
        sym (ap handed (judged_foreign x y z w (piece_ok x o ox).is (piece_ok y g gy).is (piece_ok z s sz).is (piece_ok w a aw).is there
        (sym (of b e) ∙ t)))

    pub handed_whole : (b : Bool) → b ≡ alien_in a → b ≡ false → (n : Bool) → n ≡ is_none a → (i j k : Extent) → i ≡ place_in g →
        j ≡ place_in s → k ≡ place_in a →
        Ok (record { null = n; owner = f.place; group = i; sacl = j; dacl = k }) ≡ handed (judged x y z w)
    handed_whole b e t n m i j k ig js ka =
        let wf = piece_ok w a aw in
        let null : n ≡ absent w = m ∙ ap is_none wf.what ∙ none_sound w wf.is in
        let own : f.place ≡ place_of x = ap place_in (sym some ∙ (piece_ok x o ox).what) ∙ place_sound x in
        let grp : i ≡ place_of y = ig ∙ ap place_in (piece_ok y g gy).what ∙ place_sound y in
        let sac : j ≡ place_of z = js ∙ ap place_in (piece_ok z s sz).what ∙ place_sound z in
        let dac : k ≡ place_of w = ka ∙ ap place_in wf.what ∙ place_sound w in
        rw (null, own, grp, sac, dac)
        (sym (ap handed (judged_whole x y z w (piece_ok x o ox).is (piece_ok y g gy).is (piece_ok z s sz).is wf.is there (sym (of b e) ∙ t))))

-- ---- the whole

pub handed_bad : (d : List ℕ) → heading d ≡ false → Err refusal.Misshapen ≡ handed (parts_of d)
handed_bad d h = sym (ap handed (parts_refused d h))

misshapen : (d : List ℕ) (r : Refusal) → r ≡ refusal.Misshapen → parts_of d ≡ refused_parts Misshapen → Err r ≡ handed (parts_of d)
misshapen d r e q = ap (λ (x : Refusal). Err x) e ∙ sym (ap handed q)

module _ (d : List ℕ) (h : heading d ≡ true) where
  pub read_by : (r : Result Descriptor Refusal) → r ≡ handed (judged (owner_piece d) (group_piece d) (sacl_piece d) (dacl_piece d)) →
      r ≡ handed (parts_of d)
  read_by r e = e ∙ sym (ap handed (parts_judged d h))

  pub read_owner : (r : Refusal) → Err r ≡ piece_result (owner_piece d) → Err r ≡ handed (parts_of d)
  read_owner r q =
      let f = piece_fault (owner_piece d) r q in
      misshapen d r f.why (parts_judged d h ∙ judged_owner_bad (owner_piece d) (group_piece d) (sacl_piece d) (dacl_piece d) f.is)

  module _ (o : Option Found) (oq : Ok o ≡ piece_result (owner_piece d)) where
    pub read_group : (r : Refusal) → Err r ≡ piece_result (group_piece d) → Err r ≡ handed (parts_of d)
    read_group r q =
        let f = piece_fault (group_piece d) r q in
        misshapen d r f.why
        (parts_judged d h ∙ judged_group_bad (owner_piece d) (group_piece d) (sacl_piece d) (dacl_piece d) (piece_ok (owner_piece d) o oq).is f.is)

    module _ (g : Option Found) (gq : Ok g ≡ piece_result (group_piece d)) where
      pub read_sacl : (r : Refusal) → Err r ≡ piece_result (sacl_piece d) → Err r ≡ handed (parts_of d)
      read_sacl r q =
          let f = piece_fault (sacl_piece d) r q in
          misshapen d r f.why
          (parts_judged d h ∙ judged_sacl_bad (owner_piece d) (group_piece d) (sacl_piece d) (dacl_piece d) (piece_ok (owner_piece d) o oq).is
          (piece_ok (group_piece d) g gq).is f.is)

      pub read_dacl : (s : Option Found) → Ok s ≡ piece_result (sacl_piece d) → (r : Refusal) → Err r ≡ piece_result (dacl_piece d) →
          Err r ≡ handed (parts_of d)
      read_dacl s sq r q =
          let f = piece_fault (dacl_piece d) r q in
          misshapen d r f.why
          (parts_judged d h ∙ judged_dacl_bad (owner_piece d) (group_piece d) (sacl_piece d) (dacl_piece d) (piece_ok (owner_piece d) o oq).is
          (piece_ok (group_piece d) g gq).is (piece_ok (sacl_piece d) s sq).is f.is)

-- ---- each part lies inside

pub handed_inside : (d : List ℕ) (r : Result Descriptor Refusal) → r ≡ handed (parts_of d) → IfOk r (λ p. Within (length d) p)
handed_inside d r e = rw e (go (parts_of d).verdict)
  where
    i : Inside (length d) (parts_of d)
    i = parts_bounds d

    go : (v : Verdict) →
        IfOk
        (refused_by v
        (record {
          null = (parts_of d).null;
          owner = (parts_of d).owner;
          group = (parts_of d).group;
          sacl = (parts_of d).sacl;
          dacl = (parts_of d).dacl;
        }))
        (λ p. Within (length d) p)
    go Whole = record { owner = i.owner; group = i.group; sacl = i.sacl; dacl = i.dacl }
    go Misshapen = tt
    go Ownerless = tt
    go ForeignEntry = tt

-- ---- the bytes of a part

module _ (d : List ℕ) where
  pub bytes_none : (r : Refusal) → Err r ≡ handed (parts_of d) →
      (owner_of d ≡ []) × ((group_of d ≡ []) × ((sacl_of d ≡ []) × (dacl_of d ≡ [])))
  bytes_none r q = refused_nothing d refused
    where
      refused : (parts_of d).verdict ≡ Whole → ⊥
      refused e =
          let whole : Descriptor =
          record {
            null = (parts_of d).null;
            owner = (parts_of d).owner;
            group = (parts_of d).group;
            sacl = (parts_of d).sacl;
            dacl = (parts_of d).dacl;
          } in
          let z : Err r ≡ Ok whole = q ∙ ap (λ (v : Verdict). refused_by v whole) e in
          cc

  module _ (p : Descriptor) (e : Ok p ≡ handed (parts_of d)) where
    same : p ≡ record {
      null = (parts_of d).null;
      owner = (parts_of d).owner;
      group = (parts_of d).group;
      sacl = (parts_of d).sacl;
      dacl = (parts_of d).dacl;
    }
    same = go (parts_of d).verdict e
      where
        go : (v : Verdict) →
            Ok p ≡ refused_by v (record {
              null = (parts_of d).null;
              owner = (parts_of d).owner;
              group = (parts_of d).group;
              sacl = (parts_of d).sacl;
              dacl = (parts_of d).dacl;
            }) →
            p ≡ record {
              null = (parts_of d).null;
              owner = (parts_of d).owner;
              group = (parts_of d).group;
              sacl = (parts_of d).sacl;
              dacl = (parts_of d).dacl;
            }
        go Whole q = cc
        go Misshapen q = absurd (cc)
        go Ownerless q = absurd (cc)
        go ForeignEntry q = absurd (cc)

    lies : (x : Extent) (y : Extent) → x ≡ y → LiesIn (length d) y → part_in d x.from x.to ≡ part d y.from y.to
    lies x y q i = ap (λ (o : Extent). part_in d o.from o.to) q ∙ part_in_inside d y.from y.to i.0 i.1

    pub bytes_owner : part_in d p.owner.from p.owner.to ≡ owner_of d
    bytes_owner = lies p.owner (parts_of d).owner (ap (λ (k : Descriptor). k.owner) same) (parts_bounds d).owner

    pub bytes_group : part_in d p.group.from p.group.to ≡ group_of d
    bytes_group = lies p.group (parts_of d).group (ap (λ (k : Descriptor). k.group) same) (parts_bounds d).group

    pub bytes_sacl : part_in d p.sacl.from p.sacl.to ≡ sacl_of d
    bytes_sacl = lies p.sacl (parts_of d).sacl (ap (λ (k : Descriptor). k.sacl) same) (parts_bounds d).sacl

    pub bytes_dacl : part_in d p.dacl.from p.dacl.to ≡ dacl_of d
    bytes_dacl = lies p.dacl (parts_of d).dacl (ap (λ (k : Descriptor). k.dacl) same) (parts_bounds d).dacl
