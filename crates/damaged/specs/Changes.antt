-- D with other bytes.
use Rattle.std.specs.Prelude.{ℕ, zero, suc, ◌+◌, ◌*◌, List, cond, ltb, set}
use Rattle.base.specs.Bytes.{byte_at}
use Rattle.testkit.specs.Sample.{descriptor_d}

-- another byte at a place that 64 bytes have
unfoldable pub put_at : List ℕ → ℕ → ℕ → List ℕ
put_at d at v = cond (ltb at 64) (set d at v) d

-- D after the first n changes: of each two bytes the first is a place and the second what stands there
unfoldable pub changed : List ℕ → ℕ → List ℕ
changed s zero = descriptor_d
changed s (suc n) = put_at (changed s n) (byte_at s (2 * n)) (byte_at s (2 * n + 1))
