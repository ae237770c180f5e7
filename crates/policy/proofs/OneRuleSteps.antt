-- What a rule is, by each test in its order: rule-..; and as the code answers it: sections_fit, none-.., rule_there. For the functions of
-- `one_rule`.
-- Not here: its sections, SectionSteps. Assumes nothing.
use Prim.Native.Nat.{ℕ}
use mathlib.Core.Path.{◌≡◌, refl, ap, ◌∙◌}
use mathlib.Core.List.{List}
use mathlib.Core.Bool.{Bool, true, false, cond, ◌||◌}
use lib.Dec.{eqb}
use Rattle.conditions.specs.Scanning.{is_broken, is_foreign, scan_result}
use Rattle.conditions.specs.declared.fault.Fault.{Fault}
use Rattle.conditions.specs.Scanning.{Scan}
use Rattle.conditions.specs.Scanning.Scan.{Broken, Foreign, Plain}
use Rattle.std.specs.Prelude.{Option, None, Some, Result}
use Rattle.policy.specs.Policy.{bytes_of, acl_section, maybe_acl, applies_section, no_rule, rule_of, rule_at, alien, found}
use Rattle.policy.specs.ByLengths.{rule_by_lengths, whole}
use Rattle.lists.specs.declared.descriptor.Extent.{Extent}
use Rattle.policy.specs.declared.one_rule.Rule.{Rule}

-- what a section holds, broken where it does not fit
abbrev pub applies_in : List ℕ → Extent → Scan
applies_in s x = cond (eqb x.to 0) Broken (applies_section (bytes_of s x))

abbrev pub list_in : List ℕ → Extent → Scan
list_in s x = cond (eqb x.to 0) Broken (acl_section true (bytes_of s x))

abbrev pub maybe_in : Bool → List ℕ → Extent → Scan
maybe_in deep s x = cond (eqb x.to 0) Broken (maybe_acl deep (bytes_of s x))

-- a section that does not fit and a broken list are refused alike
fused : (b : Bool) (e : Scan) (f : Scan → Rule) →
    cond b no_rule (cond (is_broken e) no_rule (f e)) ≡ cond (is_broken (cond b Broken e)) no_rule (f (cond b Broken e))
fused true e f = refl
fused false e f = refl

module _ (s : List ℕ) (applies dacl sacl staged last : Extent) where
  -- the rule where nothing is refused
  abbrev pub made : Scan → Scan → Scan → Rule
  made a e t =
      record {
        next = last.to;
        unread = is_foreign a || is_foreign e || is_foreign t;
        applies = applies;
        effective = dacl;
        sacl = sacl;
        staged = staged;
        staged_sacl = last;
      }

  -- applies_to and the four lists, in their order
  abbrev judged_staged : Scan → Scan → Scan → Scan → Rule
  judged_staged a e t y = cond (is_broken t) no_rule (cond (is_broken y) no_rule (made a e t))

  abbrev judged_lists : Scan → Scan → Scan → Scan → Scan → Rule
  judged_lists a e x t y = cond (is_broken e) no_rule (cond (is_broken x) no_rule (judged_staged a e t y))

  abbrev judged : Scan → Scan → Scan → Scan → Scan → Rule
  judged a e x t y = cond (is_broken a) no_rule (judged_lists a e x t y)

  rule_is : rule_of s applies dacl sacl staged last
      ≡ judged (applies_in s applies) (list_in s dacl) (maybe_in false s sacl) (maybe_in true s staged) (maybe_in false s last)
  unfolding rule_of
  rule_is =
      let a = applies_section (bytes_of s applies) in
      let e = acl_section true (bytes_of s dacl) in
      let x = maybe_acl false (bytes_of s sacl) in
      let t = maybe_acl true (bytes_of s staged) in
      let y = maybe_acl false (bytes_of s last) in
      ap
      (λ (r : Rule). cond (eqb applies.to 0) no_rule (cond (is_broken a) no_rule r))
      (ap
      (λ (r : Rule). cond (eqb dacl.to 0) no_rule (cond (is_broken e) no_rule r))
      (ap
      (λ (r : Rule). cond (eqb sacl.to 0) no_rule (cond (is_broken x) no_rule r))
      (ap
      (λ (r : Rule). cond (eqb staged.to 0) no_rule (cond (is_broken t) no_rule r))
      (fused (eqb last.to 0) y (λ z. made a e t))
      ∙ fused (eqb staged.to 0) t (λ z. cond (is_broken (maybe_in false s last)) no_rule (made a e z)))
      ∙ fused (eqb sacl.to 0) x (λ z. judged_staged a e (maybe_in true s staged) (maybe_in false s last)))
      ∙ fused
      (eqb dacl.to 0)
      e
      (λ z. cond (is_broken (maybe_in false s sacl)) no_rule (judged_staged a z (maybe_in true s staged) (maybe_in false s last))))
      ∙ fused
      (eqb applies.to 0)
      a
      (λ z. judged_lists z (list_in s dacl) (maybe_in false s sacl) (maybe_in true s staged) (maybe_in false s last))

  pub rule_applies : is_broken (applies_in s applies) ≡ true → rule_of s applies dacl sacl staged last ≡ no_rule
  rule_applies h = rule_is ∙ rw h

  module _ (fine : is_broken (applies_in s applies) ≡ false) where
    pub rule_dacl : is_broken (list_in s dacl) ≡ true → rule_of s applies dacl sacl staged last ≡ no_rule
    rule_dacl h = rule_is ∙ rw (fine, h)

    pub rule_sacl : is_broken (list_in s dacl) ≡ false → is_broken (maybe_in false s sacl) ≡ true →
        rule_of s applies dacl sacl staged last ≡ no_rule
    rule_sacl e h = rule_is ∙ rw (fine, e, h)

    pub rule_staged : is_broken (list_in s dacl) ≡ false → is_broken (maybe_in false s sacl) ≡ false → is_broken (maybe_in true s staged) ≡ true →
        rule_of s applies dacl sacl staged last ≡ no_rule
    rule_staged e x h = rule_is ∙ rw (fine, e, x, h)

    pub rule_last : is_broken (list_in s dacl) ≡ false → is_broken (maybe_in false s sacl) ≡ false → is_broken (maybe_in true s staged) ≡ false →
        is_broken (maybe_in false s last) ≡ true → rule_of s applies dacl sacl staged last ≡ no_rule
    rule_last e x t h = rule_is ∙ rw (fine, e, x, t, h)

    pub rule_whole : is_broken (list_in s dacl) ≡ false → is_broken (maybe_in false s sacl) ≡ false → is_broken (maybe_in true s staged) ≡ false →
        is_broken (maybe_in false s last) ≡ false →
        rule_of s applies dacl sacl staged last ≡ made (applies_in s applies) (list_in s dacl) (maybe_in true s staged)
    rule_whole e x t y = rule_is ∙ rw (fine, e, x, t, y)

  -- a rule is refused for each section that is broken, whatever the others are
  pub none_dacl : is_broken (list_in s dacl) ≡ true → rule_of s applies dacl sacl staged last ≡ no_rule
  none_dacl h = rule_is ∙ go (is_broken (applies_in s applies))
    where
      go : (a : Bool) →
          cond a no_rule
          (judged_lists (applies_in s applies) (list_in s dacl) (maybe_in false s sacl) (maybe_in true s staged) (maybe_in false s last))
          ≡ no_rule
      go true = refl
      go false = rw h

  pub none_sacl : is_broken (maybe_in false s sacl) ≡ true → rule_of s applies dacl sacl staged last ≡ no_rule
  none_sacl h = rule_is ∙ go (is_broken (applies_in s applies)) (is_broken (list_in s dacl))
    where
      go : (a d : Bool) →
          cond a no_rule
          (cond d no_rule
          (cond (is_broken (maybe_in false s sacl)) no_rule
          (judged_staged (applies_in s applies) (list_in s dacl) (maybe_in true s staged) (maybe_in false s last))))
          ≡ no_rule
      go true d = refl
      go false true = refl
      go false false = rw h

  pub none_staged : is_broken (maybe_in true s staged) ≡ true → rule_of s applies dacl sacl staged last ≡ no_rule
  none_staged h = rule_is ∙ go (is_broken (applies_in s applies)) (is_broken (list_in s dacl)) (is_broken (maybe_in false s sacl))
    where
      go : (a d x : Bool) →
          cond a no_rule
          (cond d no_rule
          (cond x no_rule
          (judged_staged (applies_in s applies) (list_in s dacl) (maybe_in true s staged) (maybe_in false s last))))
          ≡ no_rule
      go true d x = refl
      go false true x = refl
      go false false true = refl
      go false false false = rw h

  pub none_last : is_broken (maybe_in false s last) ≡ true → rule_of s applies dacl sacl staged last ≡ no_rule
  none_last h =
      rule_is
      ∙ go (is_broken (applies_in s applies)) (is_broken (list_in s dacl)) (is_broken (maybe_in false s sacl)) (is_broken (maybe_in true s staged))
    where
      go : (a d x t : Bool) →
          cond a no_rule
          (cond d no_rule
          (cond x no_rule
          (cond t no_rule
          (cond (is_broken (maybe_in false s last)) no_rule (made (applies_in s applies) (list_in s dacl) (maybe_in true s staged))))))
          ≡ no_rule
      go true d x t = refl
      go false true x t = refl
      go false false true t = refl
      go false false false true = refl
      go false false false false = rw h

-- ---- as the code answers it

alien_none : (x : Scan) → None ≡ alien (scan_result x) → is_broken x ≡ true
alien_none Broken h = refl
alien_none Foreign h = absurd (cc)
alien_none Plain h = absurd (cc)

alien_some : (u : Bool) (x : Scan) → Some u ≡ alien (scan_result x) → (is_broken x ≡ false) × (u ≡ is_foreign x)
alien_some u Broken h = absurd (cc)
alien_some u Foreign h = (refl, cc)
alien_some u Plain h = (refl, cc)

-- what a section that fits holds, from the bytes that were scanned
held : (s l : List ℕ) (a b : Extent) (x : Result Unit Fault) (f : List ℕ → Scan) → a ≡ b → eqb b.to 0 ≡ false → l ≡ bytes_of s a →
    x ≡ scan_result (f l) → x ≡ scan_result (cond (eqb b.to 0) Broken (f (bytes_of s b)))
held s l a b x f e g h k = k ∙ ap (λ (m : List ℕ). scan_result (f m)) (h ∙ ap (bytes_of s) e) ∙ rw g

-- the sections of a rule fit, each of them
pub record Fits (x r : Rule) : Type 0 where
  pub same : x ≡ r
  pub applies : eqb r.applies.to 0 ≡ false
  pub effective : eqb r.effective.to 0 ≡ false
  pub sacl : eqb r.sacl.to 0 ≡ false
  pub staged : eqb r.staged.to 0 ≡ false
  pub staged_sacl : eqb r.staged_sacl.to 0 ≡ false

pub sections_fit : (x r : Rule) → Some x ≡ whole r → Fits x r
sections_fit x r h =
    go (eqb r.applies.to 0) refl (eqb r.effective.to 0) refl (eqb r.sacl.to 0) refl (eqb r.staged.to 0) refl (eqb r.staged_sacl.to 0) refl h
  where
    go : (a : Bool) → eqb r.applies.to 0 ≡ a → (b : Bool) → eqb r.effective.to 0 ≡ b → (d : Bool) → eqb r.sacl.to 0 ≡ d →
        (e : Bool) → eqb r.staged.to 0 ≡ e → (f : Bool) → eqb r.staged_sacl.to 0 ≡ f →
        Some x ≡ cond a None (cond b None (cond d None (cond e None (cond f None (Some r))))) → Fits x r
    go true ea b eb d ed e ee f ef h = absurd (cc)
    go false ea true eb d ed e ee f ef h = absurd (cc)
    go false ea false eb true ed e ee f ef h = absurd (cc)
    go false ea false eb false ed true ee f ef h = absurd (cc)
    go false ea false eb false ed false ee true ef h = absurd (cc)
    go false ea false eb false ed false ee false ef h =
        record { same = cc; applies = ea; effective = eb; sacl = ed; staged = ee; staged_sacl = ef }

module _ (s : List ℕ) (at : ℕ) where
  abbrev r : Rule
  r = rule_by_lengths s at

  none : rule_of s r.applies r.effective r.sacl r.staged r.staged_sacl ≡ no_rule → None ≡ found (rule_at s at)
  unfolding rule_at rule_by_lengths
  none h = rw h

  -- a section that does not fit
  pub none_fits : None ≡ whole (rule_by_lengths s at) → None ≡ found (rule_at s at)
  none_fits h =
      go (eqb r.applies.to 0) refl (eqb r.effective.to 0) refl (eqb r.sacl.to 0) refl (eqb r.staged.to 0) refl (eqb r.staged_sacl.to 0) refl h
    where
      go : (a : Bool) → eqb r.applies.to 0 ≡ a → (b : Bool) → eqb r.effective.to 0 ≡ b → (d : Bool) → eqb r.sacl.to 0 ≡ d →
          (e : Bool) → eqb r.staged.to 0 ≡ e → (f : Bool) → eqb r.staged_sacl.to 0 ≡ f →
          None ≡ cond a None (cond b None (cond d None (cond e None (cond f None (Some r))))) → None ≡ found (rule_at s at)
      go true ea b eb d ed e ee f ef h = none (rule_applies s r.applies r.effective r.sacl r.staged r.staged_sacl (rw ea))
      go false ea true eb d ed e ee f ef h = none (none_dacl s r.applies r.effective r.sacl r.staged r.staged_sacl (rw eb))
      go false ea false eb true ed e ee f ef h = none (none_sacl s r.applies r.effective r.sacl r.staged r.staged_sacl (rw ed))
      go false ea false eb false ed true ee f ef h = none (none_staged s r.applies r.effective r.sacl r.staged r.staged_sacl (rw ee))
      go false ea false eb false ed false ee true ef h = none (none_last s r.applies r.effective r.sacl r.staged r.staged_sacl (rw ef))
      go false ea false eb false ed false ee false ef h = absurd (cc)

  module _ (x : Rule) (w : Some x ≡ whole (rule_by_lengths s at)) where
    f : Fits x r
    f = sections_fit x (rule_by_lengths s at) w

    -- each section, from the bytes that were scanned
    pub applies_held : (l : List ℕ) (y : Result Unit Fault) → l ≡ bytes_of s x.applies → y ≡ scan_result (applies_section l) → y ≡ scan_result (applies_in s r.applies)
    applies_held l y = held s l x.applies r.applies y applies_section (ap (λ (z : Rule). z.applies) f.same) f.applies

    pub effective_held : (l : List ℕ) (y : Result Unit Fault) → l ≡ bytes_of s x.effective → y ≡ scan_result (acl_section true l) → y ≡ scan_result (list_in s r.effective)
    effective_held l y = held s l x.effective r.effective y (acl_section true) (ap (λ (z : Rule). z.effective) f.same) f.effective

    pub sacl_held : (l : List ℕ) (y : Result Unit Fault) → l ≡ bytes_of s x.sacl → y ≡ scan_result (maybe_acl false l) → y ≡ scan_result (maybe_in false s r.sacl)
    sacl_held l y = held s l x.sacl r.sacl y (maybe_acl false) (ap (λ (z : Rule). z.sacl) f.same) f.sacl

    pub staged_held : (l : List ℕ) (y : Result Unit Fault) → l ≡ bytes_of s x.staged → y ≡ scan_result (maybe_acl true l) → y ≡ scan_result (maybe_in true s r.staged)
    staged_held l y = held s l x.staged r.staged y (maybe_acl true) (ap (λ (z : Rule). z.staged) f.same) f.staged

    pub last_held : (l : List ℕ) (y : Result Unit Fault) → l ≡ bytes_of s x.staged_sacl → y ≡ scan_result (maybe_acl false l) → y ≡ scan_result (maybe_in false s r.staged_sacl)
    last_held l y = held s l x.staged_sacl r.staged_sacl y (maybe_acl false) (ap (λ (z : Rule). z.staged_sacl) f.same) f.staged_sacl

    -- refused, by the section that is broken
    module _ (y : Result Unit Fault) (n : None ≡ alien y) where
      pub refused_applies : y ≡ scan_result (applies_in s r.applies) → None ≡ found (rule_at s at)
      refused_applies e =
          none (rule_applies s r.applies r.effective r.sacl r.staged r.staged_sacl (alien_none _ (n ∙ ap alien e)))

      pub refused_effective : y ≡ scan_result (list_in s r.effective) → None ≡ found (rule_at s at)
      refused_effective e =
          none (none_dacl s r.applies r.effective r.sacl r.staged r.staged_sacl (alien_none _ (n ∙ ap alien e)))

      pub refused_sacl : y ≡ scan_result (maybe_in false s r.sacl) → None ≡ found (rule_at s at)
      refused_sacl e =
          none (none_sacl s r.applies r.effective r.sacl r.staged r.staged_sacl (alien_none _ (n ∙ ap alien e)))

      pub refused_staged : y ≡ scan_result (maybe_in true s r.staged) → None ≡ found (rule_at s at)
      refused_staged e =
          none (none_staged s r.applies r.effective r.sacl r.staged r.staged_sacl (alien_none _ (n ∙ ap alien e)))

      pub refused_last : y ≡ scan_result (maybe_in false s r.staged_sacl) → None ≡ found (rule_at s at)
      refused_last e =
          none (none_last s r.applies r.effective r.sacl r.staged r.staged_sacl (alien_none _ (n ∙ ap alien e)))

    -- the rule, from what was found of its sections
    pub rule_there : (a e d t y : Result Unit Fault) (ua ue ud ut uy : Bool) → Some ua ≡ alien a → Some ue ≡ alien e → Some ud ≡ alien d →
        Some ut ≡ alien t → Some uy ≡ alien y → a ≡ scan_result (applies_in s r.applies) → e ≡ scan_result (list_in s r.effective) →
        d ≡ scan_result (maybe_in false s r.sacl) → t ≡ scan_result (maybe_in true s r.staged) →
        y ≡ scan_result (maybe_in false s r.staged_sacl) →
        ◌≡◌ {A = Option Rule}
        (Some record {
          next = x.next;
          unread = ua || ue || ut;
          applies = x.applies;
          effective = x.effective;
          sacl = x.sacl;
          staged = x.staged;
          staged_sacl = x.staged_sacl;
        })
        (found (rule_at s at))
    unfolding rule_at rule_by_lengths
    rule_there a e d t y ua ue ud ut uy oa oe od ot oy ia ie id it iy =
        let pa = alien_some ua (applies_in s r.applies) (oa ∙ ap alien ia) in
        let pe = alien_some ue (list_in s r.effective) (oe ∙ ap alien ie) in
        let pd = alien_some ud (maybe_in false s r.sacl) (od ∙ ap alien id) in
        let pt = alien_some ut (maybe_in true s r.staged) (ot ∙ ap alien it) in
        let py = alien_some uy (maybe_in false s r.staged_sacl) (oy ∙ ap alien iy) in
        let m = rule_whole s r.applies r.effective r.sacl r.staged r.staged_sacl pa.0 pe.0 pd.0 pt.0 py.0 in
        rw (f.same, m, f.staged_sacl, pa.1, pe.1, pt.1)
