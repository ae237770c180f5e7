-- An entry of a SACL, place by place: whether it is an audit entry, and then its flags, its mask as stored and where its SID stands. `next`
-- is the place after it, 0 where none stands.
use Rattle.std.specs.Prelude.{ℕ, Bool}
use Rattle.lists.specs.declared.acl.Rights.{Rights}

pub record Spot : Type 0 where
  pub audits : Bool
  pub flags : ℕ
  pub mask : Rights
  pub from : ℕ
  pub to : ℕ
  pub next : ℕ
