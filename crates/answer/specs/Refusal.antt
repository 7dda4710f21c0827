-- Document 01's refusals: why, with a number, and where. Defined, in order: Check, Answer (what is said of a check and of a
-- query); reason_number, refused_at, fails.
use Rattle.std.specs.Prelude.{ℕ, ⊤, Result, Err}
use Rattle.answer.specs.declared.Reason.{Reason}
use Rattle.answer.specs.declared.Reason.TheVariants.{VertexList, VertexBeyond, VertexNull, SameEnds, AntipodalEnds}
use Rattle.answer.specs.declared.Reason.TheVariants.{ReferenceOffGrid, ReferenceOnCircle, QueryOffGrid, QueryAntipodal}
use Rattle.answer.specs.declared.Reason.TheVariants.{SecondPoint, FieldCut, FieldTag, FieldLength, Charset, TrailingBytes, SheetRoom}
use Rattle.answer.specs.declared.Reason.TheVariants.{CutRecord, ResultRoom, OtherGrid, PolygonText, PositionOutside, OpenRing}
use Rattle.answer.specs.declared.Reason.TheVariants.{PositionDistant, ManyVertices, ManySheets}
use Rattle.answer.specs.declared.Refusal.{Refusal}
use Rattle.answer.specs.declared.Verdict.{Verdict}

abbrev pub Check : Type 0
Check = Result ⊤ Refusal

abbrev pub Answer : Type 0
Answer = Result Verdict Refusal

abbrev pub reason_number : Reason → ℕ
reason_number VertexList = 10
reason_number VertexBeyond = 11
reason_number VertexNull = 12
reason_number SameEnds = 13
reason_number AntipodalEnds = 14
reason_number ReferenceOffGrid = 15
reason_number ReferenceOnCircle = 16
reason_number QueryOffGrid = 17
reason_number QueryAntipodal = 18
reason_number SecondPoint = 19
reason_number FieldCut = 20
reason_number FieldTag = 21
reason_number FieldLength = 22
reason_number Charset = 23
reason_number TrailingBytes = 24
reason_number SheetRoom = 25
reason_number CutRecord = 26
reason_number ResultRoom = 27
reason_number OtherGrid = 28
reason_number PolygonText = 30
reason_number PositionOutside = 31
reason_number OpenRing = 32
reason_number PositionDistant = 33
reason_number ManyVertices = 34
reason_number ManySheets = 36

abbrev pub refused_at : Reason → ℕ → Refusal
refused_at reason place = record { reason = reason; place = place }

-- What a check says that fails.
abbrev pub fails : Reason → ℕ → Check
fails reason place = Err (refused_at reason place)
