-- The number of each refusal.
use Rattle.std.specs.Prelude.{ℕ, Result, Ok, Err}
use Rattle.base_refusals.specs.declared.Refusal.{Refusal}

abbrev pub number_of : Refusal → ℕ
number_of Refusal.TooLong = 1
number_of Refusal.Truncated = 2
number_of Refusal.UnknownByte = 3
number_of Refusal.BadText = 4
number_of Refusal.BadSession = 5
number_of Refusal.BadTimestamp = 6
number_of Refusal.BadMarks = 7
number_of Refusal.Unreadable = 8
number_of Refusal.NoRoom = 9
number_of Refusal.Promoted = 10
number_of Refusal.BadVersion = 11
number_of Refusal.KindsListed = 12
number_of Refusal.AppRecords = 13
number_of Refusal.Unbound = 14
number_of Refusal.ChangesHeld = 15
number_of Refusal.NoReset = 16
number_of Refusal.TooManyBytes = 17
number_of Refusal.HoldAreaFull = 18
number_of Refusal.OtherFrame = 19
number_of Refusal.NoSessionPlace = 20
number_of Refusal.NoHandlePlace = 21
number_of Refusal.OtherConnection = 22
number_of Refusal.Unchecked = 23
number_of Refusal.NumbersPast = 24
number_of Refusal.RulesBroken = 25
number_of Refusal.NotOneFrame = 26
number_of Refusal.TooManySessions = 27
number_of Refusal.FieldFault = 28
number_of Refusal.FalseLengthOrSum = 29
number_of Refusal.NumberNotRising = 30
number_of Refusal.TimeFalls = 31
number_of Refusal.LongStamp = 32
number_of Refusal.StampWithoutNumber = 33
number_of Refusal.NumberWithoutStamp = 34
number_of Refusal.BadRanges = 35
number_of Refusal.TooFewEntries = 36
number_of Refusal.OutsideQuorum = 37
number_of Refusal.OutOfSequence = 38
number_of Refusal.NoneFits = 39
number_of Refusal.NumberNotRecorded = 40

-- an answer as callers in C get it: 0, or the refusal's number
abbrev pub answer_number : {A : Type 0} → Result A Refusal → ℕ
answer_number (Ok a) = 0
answer_number (Err e) = number_of e
