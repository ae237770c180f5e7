-- What the evaluation finds for a kind, whatever the desired mask; and what is sought of its audit once the answer is known.
use Rattle.std.specs.Prelude.{ℕ, List}
use Rattle.base.specs.Bits.{and}
use Rattle.records.specs.Token.{Token}
use Rattle.records.specs.Crowd.{crowd_of}
use Rattle.masks.specs.KindsAndMasks.{explicit}
use Rattle.passes.specs.Matching.{hits_of}
use Rattle.passes.specs.NormalEvaluation.{Dacl, normal_of}
use Rattle.passes.specs.Confinement.{confinement_of}
use Rattle.policy.specs.Rules.{Lists, ruled_by}
use Rattle.audit.specs.declared.firing.Sought.{Sought}
use Rattle.answers.specs.declared.answer.Found.{Found}
use Rattle.answers.specs.declared.answer.Answer.{Answer}

-- the bits after normal evaluation, after confinement, after policy, and those on which effective and staged results differ; and whether a
-- rule that applies has an effective SACL, and a staged one (request 105)
unfoldable pub found_of : ℕ → Token → List ℕ → List ℕ → Dacl → List Lists → Found
found_of kind t owner self d rules =
    let h = hits_of (crowd_of t) owner self in
    let n = normal_of kind (crowd_of t) h t.privileges d in
    let c = and n (confinement_of kind t owner self d) in
    let r = ruled_by kind (crowd_of t) h t.privileges rules in
    record {
      normal = record { 0 = n };
      confined = record { 0 = c };
      ruled = record { 0 = and c r.left.0 };
      differ = r.differ;
      has_sacl = r.has_sacl;
      has_staged_sacl = r.has_staged_sacl;
    }

-- what an event must concern, once the answer is known (request 105): the kind, the explicit bits and "the final allowed answer"
abbrev pub sought_of : ℕ → ℕ → Answer → Sought
sought_of kind mask a = record { kind = kind; bits = record { 0 = explicit kind mask }; allowed = a.allowed }
