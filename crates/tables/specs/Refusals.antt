-- "Numbers a request can answer": a number for each refusal, and 0, "done", for an answer that is none.
use Rattle.std.specs.Prelude.{ℕ, Result, Ok, Err}
use Rattle.tables.specs.declared.refusal.Refusal.{Refusal}
use Rattle.tables.specs.declared.refusal.Refusal.TheVariants.{WrongLength, WrongMark, WrongLimits, BrokenRule, NotMounted, AlreadyMounted, BadArgument, WrongBody, NoFile, WrongState, ProtectedFile, FixedFile, PastEnd, NoRoom, NoTables}

-- "1 books not S × 1,024 bytes"; "2 wrong mark or version"; "3 Z, N .. not as above, or R1's table places fail"; "4 another rule broken"; "5 flag 0";
-- "6 mount while the flag is 1"; "7 an argument not allowed here"; "15 body length wrong"; "8 id outside 1..N, or not a parent"; "9 temporarily
-- deleted where active is needed, or the reverse"; "10 protected"; "11 grow of a fixed file"; "14 position beyond the file"; "12 no room"; "13 too
-- few free index tables"
abbrev pub number : Refusal → ℕ
number WrongLength = 1
number WrongMark = 2
number WrongLimits = 3
number BrokenRule = 4
number NotMounted = 5
number AlreadyMounted = 6
number BadArgument = 7
number WrongBody = 15
number NoFile = 8
number WrongState = 9
number ProtectedFile = 10
number FixedFile = 11
number PastEnd = 14
number NoRoom = 12
number NoTables = 13

-- the number of an answer
abbrev pub number_of : {T : Type 0} → Result T Refusal → ℕ
number_of (Ok x) = 0
number_of (Err e) = number e
