-- A few cases of the definitions, which antt computes. Assumes nothing.
use Rattle.std.proofs.Common.{◌≡◌, [], ◌∷◌, refl}
use Rattle.model_session.specs.Session.{keep}
use Rattle.store_log.specs.Log.{msg, log_of}

-- no room for the bytes: the oldest two go
bytes_out : keep 5 9 (msg 4 (40 ∷ 41 ∷ 42 ∷ 43 ∷ [])) (msg 1 (10 ∷ []) ∷ msg 2 (20 ∷ []) ∷ msg 3 (30 ∷ []) ∷ []) ≡ msg 3 (30 ∷ []) ∷ msg 4 (40 ∷ 41 ∷ 42 ∷ 43 ∷ []) ∷ []
unfolding keep
bytes_out = refl

-- no room for the count: the oldest goes, an empty message too
count_out : keep 5 2 (msg 3 []) (msg 1 [] ∷ msg 2 (20 ∷ []) ∷ []) ≡ msg 2 (20 ∷ []) ∷ msg 3 [] ∷ []
unfolding keep
count_out = refl

-- longer than C, or M is 0: not stored
too_long : keep 1 2 (msg 3 (30 ∷ 31 ∷ [])) (msg 1 [] ∷ []) ≡ msg 1 [] ∷ []
unfolding keep
too_long = refl

no_slots : keep 9 0 (msg 3 (30 ∷ 31 ∷ [])) [] ≡ []
unfolding keep
no_slots = refl

-- an area with two slots and five bytes: the next entry goes to slot 0 (a head of 2 is taken as 0), the tail is at 2; the newest message is number 7, which wraps
area : log_of 5 2 8 (2 ∷ 2 ∷ 4 ∷ 1 ∷ 7 ∷ 3 ∷ []) (71 ∷ 72 ∷ 0 ∷ 40 ∷ 70 ∷ []) ≡ msg 4 (40 ∷ []) ∷ msg 7 (70 ∷ 71 ∷ 72 ∷ []) ∷ []
unfolding log_of
area = refl

-- the same area where the next number is 7: the newest entry does not count, and so none does
stale : log_of 5 2 7 (2 ∷ 2 ∷ 4 ∷ 1 ∷ 7 ∷ 3 ∷ []) (71 ∷ 72 ∷ 0 ∷ 40 ∷ 70 ∷ []) ≡ []
unfolding log_of
stale = refl

-- a zeroed area
zeroed : log_of 3 2 1 (0 ∷ 0 ∷ 0 ∷ 0 ∷ 0 ∷ 0 ∷ []) (0 ∷ 0 ∷ 0 ∷ []) ≡ []
unfolding log_of
zeroed = refl
