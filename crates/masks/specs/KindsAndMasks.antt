-- "One table of two rows and four columns serves all mapping (Microsoft's published file and registry rights)."
use Rattle.std.specs.Prelude.{ℕ, List, [], ◌∷◌, Bool, cond, ◌||◌, get_or, eqb}
use Rattle.base.specs.Bits.{and, or, flip, has, covers}

-- | Kind | read | write | execute | all |
abbrev pub table : List (List ℕ)
table =
    (0x120089 ∷ 0x120116 ∷ 0x1200A0 ∷ 0x1F01FF ∷ [])
    ∷ (0x20019 ∷ 0x20006 ∷ 0x20019 ∷ 0xF003F ∷ [])
    ∷ []

-- kind 1 file, kind 2 key: any other is refused with 1 before a right is looked up
abbrev pub known_kind : ℕ → Bool
known_kind kind = eqb kind 1 || eqb kind 2

unfoldable pub right : ℕ → ℕ → ℕ
right kind column = get_or (get_or table (cond (eqb kind 2) 1 0) []) column 0

abbrev pub all_bits : ℕ → ℕ
all_bits kind = right kind 3

-- "Generic bits are 0x80000000 read, 0x40000000 write, 0x20000000 execute, 0x10000000 all."
unfoldable pub mapped : ℕ → ℕ → ℕ
mapped kind m =
    or (and m 0x0FFFFFFF)
    (or (cond (has m 0x80000000) (right kind 0) 0)
    (or (cond (has m 0x40000000) (right kind 1) 0)
    (or (cond (has m 0x20000000) (right kind 2) 0)
    (cond (has m 0x10000000) (right kind 3) 0))))

-- "An entry's mask is mapped, then cut to the kind's all bits."
unfoldable pub entry_mask : ℕ → ℕ → ℕ
entry_mask kind m = and (mapped kind m) (all_bits kind)

-- 0x01000000, system security, is asked only when named; 0x02000000 asks for the maximum
abbrev pub system_security : ℕ
system_security = 0x01000000

abbrev pub maximum : ℕ
maximum = 0x02000000

-- number 2: "a bit that is not generic, 0x01000000, 0x02000000 or among the kind's all bits"
unfoldable pub legal : ℕ → ℕ → Bool
legal kind m = covers (or 0xF3000000 (all_bits kind)) m

-- "The explicit bits of a question are its mapped mask without 0x02000000"
unfoldable pub explicit : ℕ → ℕ → ℕ
explicit kind m = and (mapped kind m) (flip maximum)

-- "the asked bits are these, and with 0x02000000 also the kind's all bits"
unfoldable pub asked : ℕ → ℕ → ℕ
asked kind m = or (explicit kind m) (cond (has m maximum) (all_bits kind) 0)
