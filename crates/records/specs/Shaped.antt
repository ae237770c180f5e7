-- A token whose fields lie in their ranges: what every reading of a record or of a listing gives, and what either writing needs.
use Rattle.std.specs.Prelude.{ℕ, ◌^◌, ◌<◌, ◌≤◌, ◌≡◌, List, [], ◌∷◌, Bool, true, false, T, length}
use Rattle.std.proofs.Math.Pow.{are_bytes}
use Rattle.sids.specs.Sid.{is_sid}
use Rattle.records.specs.Token.{Group, Confined, Token, confined, unconfined}

-- it holds of each
abbrev pub All : {A : Type 0} → (A → Type 0) → List A → Type 0
All P [] = Unit
All P (a ∷ rest) = P a × All P rest

-- the bytes of one SID
pub record Identity (w : List ℕ) : Type 0 where
  pub whole : is_sid w ≡ true
  pub bytes : T (are_bytes w)

pub record ShapedGroup (g : Group) : Type 0 where
  pub sid : Identity g.sid
  pub attributes : g.attributes < 2 ^ 32

pub record ShapedConfined (c : Confined) : Type 0 where
  pub identity : Identity c.identity
  pub few : length c.capabilities ≤ 64
  pub capabilities : All Identity c.capabilities

-- by whether the token is confined
abbrev pub Confinement : Bool → Confined → Type 0
Confinement true c = ShapedConfined c
Confinement false c = c ≡ unconfined

pub record Shaped (t : Token) : Type 0 where
  pub flags : t.flags ≤ 3
  pub privileges : t.privileges < 2 ^ 64
  pub user : Identity t.user
  pub few : length t.groups ≤ 256
  pub groups : All ShapedGroup t.groups
  pub confinement : Confinement (confined t.flags) t.confinement
