-- The fields of a token in the order of the page, once for both formats: "The flat listing holds the same fields without version".
-- A format says how it reads and writes a number of each field and an identity.
use Rattle.std.specs.Prelude.{ℕ, zero, suc, List, [], ◌∷◌, ◌++◌, Bool, true, false, length, leb, eqb}
use Rattle.base.specs.Bytes.{Read, bind, only}
use Rattle.base.specs.Bytes.Read.{some}
use Rattle.records.specs.Token.{Group, Confined, Token, confined, unconfined}

-- ---- reading

pub record Reader : Type 0 where
  pub flags : List ℕ → ℕ → Read ℕ
  pub privileges : List ℕ → ℕ → Read ℕ
  pub count : List ℕ → ℕ → Read ℕ
  pub attributes : List ℕ → ℕ → Read ℕ
  pub identity : List ℕ → ℕ → Read (List ℕ)

-- n things of one kind, one after the other
unfoldable pub many : {A : Type 0} → (List ℕ → ℕ → Read A) → ℕ → List ℕ → ℕ → Read (List A)
many f zero s at = some [] at
many f (suc n) s at = bind (f s at) (λ a next. bind (many f n s next) (λ rest end. some (a ∷ rest) end))

-- "each an identity and a 32-bit attribute word"
unfoldable pub group_at : Reader → List ℕ → ℕ → Read Group
group_at f s at = bind (f.identity s at) (λ w next. bind (f.attributes s next) (λ a end. some (record { sid = w; attributes = a }) end))

-- "where confined, the confinement identity and a capability count, at most 64, each an identity"
unfoldable pub confinement_at : Reader → Bool → List ℕ → ℕ → Read Confined
confinement_at f false s at = some unconfined at
confinement_at f true s at =
    bind (f.identity s at) (λ w a.
    bind (f.count s a) (λ n b. only (leb n 64)
    (bind (many f.identity n s b) (λ cs end. some (record { identity = w; capabilities = cs }) end))))

-- "user; group count, at most 256"
unfoldable pub people_at : Reader → ℕ → ℕ → List ℕ → ℕ → Read Token
people_at f flags privileges s at =
    bind (f.identity s at) (λ u a.
    bind (f.count s a) (λ n b. only (leb n 256)
    (bind (many (group_at f) n s b) (λ gs c.
    bind (confinement_at f (confined flags) s c) (λ w end.
    some (record { flags = flags; privileges = privileges; user = u; groups = gs; confinement = w }) end)))))

-- "flags 0 to 3 .. enabled privileges, 64 bits"
unfoldable pub fields_at : Reader → List ℕ → ℕ → Read Token
fields_at f s at = bind (f.flags s at) (λ flags a. only (leb flags 3) (bind (f.privileges s a) (λ p b. people_at f flags p s b)))

-- "Nothing follows."
abbrev pub ended : {A : Type 0} → List ℕ → Read A → Read A
ended s r = bind r (λ a end. only (eqb end (length s)) (some a end))

-- ---- writing

pub record Writer : Type 0 where
  pub flags : ℕ → List ℕ
  pub privileges : ℕ → List ℕ
  pub count : ℕ → List ℕ
  pub attributes : ℕ → List ℕ
  pub identity : List ℕ → List ℕ

unfoldable pub each : {A : Type 0} → (A → List ℕ) → List A → List ℕ
each f [] = []
each f (a ∷ rest) = f a ++ each f rest

abbrev pub group_bytes : Writer → Group → List ℕ
group_bytes f g = f.identity g.sid ++ f.attributes g.attributes

unfoldable pub confinement_bytes : Writer → Bool → Confined → List ℕ
confinement_bytes f false c = []
confinement_bytes f true c = f.identity c.identity ++ (f.count (length c.capabilities) ++ each f.identity c.capabilities)

unfoldable pub people_bytes : Writer → Token → List ℕ
people_bytes f t =
    f.identity t.user
    ++ (f.count (length t.groups) ++ (each (group_bytes f) t.groups ++ confinement_bytes f (confined t.flags) t.confinement))

unfoldable pub fields_bytes : Writer → Token → List ℕ
fields_bytes f t = f.flags t.flags ++ (f.privileges t.privileges ++ people_bytes f t)
