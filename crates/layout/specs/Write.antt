-- Bytes put into a lent image, and what a writer gives.
use Rattle.std.specs.Prelude.{cond, List, ℕ, ◌+◌, leb, length, Result, Ok, Err}
use Rattle.base.specs.declared.Verdict.{Verdict}
use Rattle.base.specs.Lists.{patch}
use Rattle.layout.specs.declared.write.Wrote.{Wrote}

-- the image with bs from byte i on, where they fit; else as it was
abbrev pub placed : List ℕ → ℕ → List ℕ → List ℕ
placed image i bs = cond (leb (i + length bs) (length image)) (patch image i bs) image

-- an answer, its place, and the sheet's length
abbrev pub wrote_as : ℕ → ℕ → ℕ → Wrote
wrote_as n p l = record { answer = n; place = p; length = l }

-- the same of a writer's result: the length, or what refuses
abbrev pub wrote_for_c : Result ℕ Verdict → Wrote
wrote_for_c (Ok n) = wrote_as 0 0 n
wrote_for_c (Err v) = wrote_as v.answer v.place 0
