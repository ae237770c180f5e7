-- How the code goes about it: a trail is measured first and then written, by the same walk. A walk that measures changes nothing.
use Rattle.std.specs.Prelude.{ℕ, ◌+◌, ◌≤◌, ◌≡◌, List, [], Bool, true, cond, length, ltb}
use Rattle.std.proofs.lemmas.List.Edits.{sets}

-- w at place o, where it is written
abbrev pub noted : Bool → List ℕ → ℕ → List ℕ → List ℕ
noted write l o w = cond write (sets l o w) l

-- r is the place after w, which was measured or written at place o; nothing else was changed
pub record Noted (write : Bool) (before after : List ℕ) (o r : ℕ) (w : List ℕ) : Type 0 where
  pub place : r ≡ o + length w
  pub bytes : after ≡ noted write before o w

-- what is written has room
abbrev pub Room : Bool → List ℕ → ℕ → List ℕ → Type 0
Room write l o w = write ≡ true → o + length w ≤ length l

-- "If the events do not fit: .. nothing written": the bytes that are written in a buffer of n bytes
abbrev pub fitting : ℕ → List ℕ → List ℕ
fitting n w = cond (ltb n (length w)) [] w
