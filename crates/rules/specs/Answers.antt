-- What comes back: the number, the data and the physical address of each answer, as 01's table, the sentence below it and T-01 have
-- them.
use Rattle.std.specs.Prelude.{ℕ, Option, Some, None}
use Rattle.rules.specs.Types.{Fault, Answer, Returned, Size}

-- a row of 01's table: number, data and physical address
unfoldable pub shown_as : ℕ → ℕ → Option ℕ → Returned
shown_as n d at = record { number = n; datum = d; physical = at }

-- "4-8 | AV, RV, WV, PV, IV", "9 | time-out"; and "10 takes 9's place at step 6, also in the window's inner walk; 9 stays at step 10." (T-01)
unfoldable pub fault_shown : Fault → Returned
fault_shown Fault.OddAddress = shown_as 4 0 None
fault_shown Fault.NoMapWord = shown_as 10 0 None
fault_shown Fault.NotResident = shown_as 5 0 None
fault_shown Fault.NotWritable = shown_as 6 0 None
fault_shown Fault.NotPublic = shown_as 7 0 None
fault_shown Fault.NoTarget = shown_as 9 0 None
fault_shown (Fault.Forbidden w at) = shown_as 8 w (Some at)

-- 01's table, and below it "Answers 0 and 8 of an access give the physical address ..; sequence accesses, the other calls and the other answers give
-- none."
unfoldable pub shown : Answer → Returned
shown (Answer.Done w at) = shown_as 0 w (Some at)
shown (Answer.Taken w) = shown_as 0 w None
shown Answer.Misshapen = shown_as 1 0 None
shown Answer.NotDue = shown_as 2 0 None
shown Answer.UnpagedOdd = shown_as 3 0 None
shown (Answer.Fault f) = fault_shown f

-- What the making of a unit gives, which is no call: "Every other number gives 30 and no unit." (T-08)
unfoldable pub making_shown : Option Size → Returned
making_shown (Some s) = shown_as 0 0 None
making_shown None = shown_as 30 0 None
