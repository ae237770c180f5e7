-- What a token is: flags, enabled privileges, user, groups with their attribute words and, where confined, the confinement identity with its
-- capabilities. An identity is its MS-DTYP bytes.
use Rattle.std.specs.Prelude.{ℕ, List, [], Bool}
use Rattle.base.specs.Bits.{has}

pub record Group : Type 0 where
  pub sid : List ℕ
  pub attributes : ℕ

-- the confinement identity and the capabilities; none where the token is not confined
pub record Confined : Type 0 where
  pub identity : List ℕ
  pub capabilities : List (List ℕ)

pub record Token : Type 0 where
  pub flags : ℕ
  pub privileges : ℕ
  pub user : List ℕ
  pub groups : List Group
  pub confinement : Confined

-- "flags 0 to 3 (1 confined, 2 exempt)"
abbrev pub confined : ℕ → Bool
confined flags = has flags 1

abbrev pub exempt : ℕ → Bool
exempt flags = has flags 2

abbrev pub unconfined : Confined
unconfined = record { identity = []; capabilities = [] }
