-- "A tally of bits decided and bits allowed takes one entry and gives the next tally; every pass begins with the empty tally."
use Rattle.std.specs.Prelude.{ℕ, Bool, true, cond}
use Rattle.base.specs.Bits.{and, or, flip, has, covers}
use Rattle.masks.specs.declared.tally.Tally.{Tally}

abbrev pub tally : ℕ → ℕ → Tally
tally d a = record { decided = record { 0 = d }; allowed = record { 0 = a } }

abbrev pub emptied : Tally
emptied = tally 0 0

-- an allow entry's bits are decided, and allowed where they were not decided before; a deny entry's are decided
abbrev pub allowing : Tally → ℕ → Tally
allowing t m = tally (or t.decided.0 m) (or t.allowed.0 (and m (flip t.decided.0)))

abbrev pub denying : Tally → ℕ → Tally
denying t m = tally (or t.decided.0 m) t.allowed.0

-- one step on: the entry matches or not, allows or denies
abbrev pub stepped : Tally → Bool → Bool → ℕ → Tally
stepped t hit allow m = cond hit (cond allow (allowing t m) (denying t m)) t

-- an entry that cannot change the tally: for children only (flag 0x08), or its bits are all decided
abbrev pub idle : Tally → ℕ → ℕ → Bool
idle t flags m = cond (has flags 0x08) true (covers t.decided.0 m)
