-- An answer, its masks, its trail and a conversion, handed out part by part (specs: Told, Explained, Followed).
-- Assumes nothing.
use Prim.Native.Nat.{ℕ}
use mathlib.Core.Path.{◌≡◌, ap, ◌∙◌}
use mathlib.Core.List.{List}
use lib.Seq.{sets}
use Rattle.records.specs.Converters.{Conversion}
use Rattle.tokens.specs.Answers.{answered, Converted}
use Rattle.access.specs.Reported.{Report, Lent}
use Rattle.answers.specs.declared.answer.Answer.{Answer}
use Rattle.access.specs.declared.answer.Traced.{Traced}
use Rattle.masks.specs.KindsAndMasks.{asked}
use Rattle.pirasteh.specs.Told.{Told, Handed}
use Rattle.pirasteh.specs.Explained.{if_answered, Shown, Explained}
use Rattle.pirasteh.specs.Followed.{Followed}

-- of equal answers the same is told
pub told_of_lem : {x answer : Answer} {r g a s : ℕ} → x ≡ answer → Told x r g a s → Told answer r g a s
told_of_lem e t = rw e at t

-- and of equal answers the same masks, with the bits asked for
pub explained_of : {x answer : Answer} {kind mask m r b n c p g a s : ℕ} → x ≡ answer → Told x r g a s → Shown x n c p →
    b ≡ if_answered x.status m → m ≡ asked kind mask → Explained answer kind mask r b n c p g a s
explained_of e t w b m = record { told = told_of_lem e t; shown = rw e at w; bits = b ∙ rw (e, m) }

-- a report as it is lent, with its answer told
pub followed_of : {r : Report} {before after : List ℕ} {t : Traced} {m g a s : ℕ} → Lent r before after t → Told t.answer m g a s →
    Followed r before after t.length m g a s
followed_of l t = record { told = told_of_lem l.answer t; written = l.length; buffer = l.buffer }

pub handed_made : (c : Conversion) (x : Converted) (before after : List ℕ) → x ≡ answered c → after ≡ sets before 0 c.bytes →
    Handed c before after x.length x.status
handed_made c x before after e f =
    record { status = ap (λ (y : Converted). y.status) e; written = ap (λ (y : Converted). y.length) e; buffer = f }
