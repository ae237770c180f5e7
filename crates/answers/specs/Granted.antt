-- "Granted: asked bits left by normal evaluation, confinement and every rule's result". What the evaluation finds does not depend on the desired
-- mask: the masks left and the bits on which staging differs are found for the kind, and the mask enters at the end.
use Rattle.std.specs.Prelude.{ℕ, Bool, false, not, ◌&&◌, ◌||◌, eqb}
use Rattle.base.specs.Bits.{and, has, covers}
use Rattle.masks.specs.KindsAndMasks.{explicit, asked, maximum}
use Rattle.lists.specs.declared.acl.Rights.{Rights}
use Rattle.answers.specs.declared.answer.Found.{Found}
use Rattle.answers.specs.declared.answer.Answer.{Answer}

-- ---- read off for a mask

-- "each limited to asked bits" (request 106): of the bits found after a step those that are asked
abbrev pub limited : ℕ → ℕ → Rights → Rights
limited kind mask found = record { 0 = and (asked kind mask) found.0 }

-- "Granted: asked bits left by normal evaluation, confinement and every rule's result"
abbrev pub granted_of : ℕ → ℕ → Found → Rights
granted_of kind mask f = limited kind mask f.ruled

-- "Allowed: every explicit bit is granted, and the granted mask is not 0 if 0x02000000 was asked."
abbrev pub allowed_of : ℕ → ℕ → ℕ → Bool
allowed_of kind mask granted = covers granted (explicit kind mask) && (not (has mask maximum) || not (eqb granted 0))

-- "Staging flag: some rule with a staged DACL whose effective and staged results differ on asked bits."
abbrev pub staged_of : ℕ → ℕ → Found → Bool
staged_of kind mask f = has (asked kind mask) f.differ.0

-- "four masks: after normal evaluation, after confinement, after policy, and granted" (request 106)
unfoldable pub answer_of : ℕ → ℕ → Found → Answer
answer_of kind mask f =
    let g : Rights = granted_of kind mask f in
    record {
      status = 0;
      normal = limited kind mask f.normal;
      confined = limited kind mask f.confined;
      ruled = limited kind mask f.ruled;
      granted = g;
      allowed = allowed_of kind mask g.0;
      staged = staged_of kind mask f;
    }

-- ---- refused, and with the audit

-- "On refusal mask 0, allowed no, flag clear"; "A refusal zeroes all four" masks (request 106)
abbrev pub refused : ℕ → Answer
refused n =
    record {
      status = n;
      normal = record { 0 = 0 };
      confined = record { 0 = 0 };
      ruled = record { 0 = 0 };
      granted = record { 0 = 0 };
      allowed = false;
      staged = false;
    }

-- "A staged SACL now raises the staging flag" (request 105)
abbrev pub flagged : Answer → Bool → Answer
flagged a raised =
    record {
      status = a.status;
      normal = a.normal;
      confined = a.confined;
      ruled = a.ruled;
      granted = a.granted;
      allowed = a.allowed;
      staged = a.staged || raised;
    }
