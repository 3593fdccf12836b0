-- No refusal has the number 0. Assumes nothing.
use mathlib.Core.Path.{◌≡◌, refl}
use mathlib.Core.Bool.{false}
use lib.Dec.{eqb}
use Rattle.base_refusals.specs.declared.Refusal.{Refusal}
use Rattle.base_refusals.specs.Numbers.{number_of}

pub some_number : (e : Refusal) → eqb (number_of e) 0 ≡ false
some_number Refusal.TooLong = refl
some_number Refusal.Truncated = refl
some_number Refusal.UnknownByte = refl
some_number Refusal.BadText = refl
some_number Refusal.BadSession = refl
some_number Refusal.BadTimestamp = refl
some_number Refusal.BadMarks = refl
some_number Refusal.Unreadable = refl
some_number Refusal.NoRoom = refl
some_number Refusal.Promoted = refl
some_number Refusal.BadVersion = refl
some_number Refusal.KindsListed = refl
some_number Refusal.AppRecords = refl
some_number Refusal.Unbound = refl
some_number Refusal.ChangesHeld = refl
some_number Refusal.NoReset = refl
some_number Refusal.TooManyBytes = refl
some_number Refusal.HoldAreaFull = refl
some_number Refusal.OtherFrame = refl
some_number Refusal.NoSessionPlace = refl
some_number Refusal.NoHandlePlace = refl
some_number Refusal.OtherConnection = refl
some_number Refusal.Unchecked = refl
some_number Refusal.NumbersPast = refl
some_number Refusal.RulesBroken = refl
some_number Refusal.NotOneFrame = refl
some_number Refusal.TooManySessions = refl
some_number Refusal.FieldFault = refl
some_number Refusal.FalseLengthOrSum = refl
some_number Refusal.NumberNotRising = refl
some_number Refusal.TimeFalls = refl
some_number Refusal.LongStamp = refl
some_number Refusal.StampWithoutNumber = refl
some_number Refusal.NumberWithoutStamp = refl
some_number Refusal.BadRanges = refl
some_number Refusal.TooFewEntries = refl
some_number Refusal.OutsideQuorum = refl
some_number Refusal.OutOfSequence = refl
some_number Refusal.NoneFits = refl
some_number Refusal.NumberNotRecorded = refl
