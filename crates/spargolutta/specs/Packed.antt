-- Seven bytes as C gets them: one number, the first byte in the lowest place (document 02, P11). Defined, in order:
-- packed_from (k bytes from number i on), packed_of.
use Rattle.std.specs.Prelude.{List, ℕ, zero, suc, ◌+◌, ◌*◌, get_or}

unfoldable pub packed_from : List ℕ → ℕ → ℕ → ℕ
packed_from bytes i zero = 0
packed_from bytes i (suc k) = get_or bytes i 0 + packed_from bytes (suc i) k * 256

unfoldable pub packed_of : List ℕ → ℕ
packed_of bytes = packed_from bytes 0 7
