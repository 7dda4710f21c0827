-- A buffer that was lent for writing, after the call. Defined: buffer_after.
use Rattle.std.specs.Prelude.{List, ◌++◌, ℕ, length, drop, Ok, Err}
use Rattle.answer.specs.Refusal.{Check}

-- What is written in front and the other bytes as they were; or, refused, all as it was.
abbrev pub buffer_after : Check → List ℕ → List ℕ → List ℕ
buffer_after (Err refusal) bytes buffer = buffer
buffer_after (Ok passed) bytes buffer = bytes ++ drop (length bytes) buffer
