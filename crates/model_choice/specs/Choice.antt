-- Which copy takes over, of several standbys (request U13). Assumes nothing.
use Rattle.std.specs.Prelude.{ℕ, zero, suc, max, Bool, true, false, cond, not, ◌&&◌, ◌||◌, List, [], ◌∷◌, eqb, leb}
use Rattle.model_frame.specs.Frame.{Key}
use Rattle.model_standby.specs.Store.{Place, same_key}

-- a copy: whether it is listed, its counters' epoch and checked flag, the sessions of its store
pub record StandbyCopy : Type 0 where
  pub is_listed : Bool
  pub epoch : ℕ
  pub is_checked : Bool
  pub places : List Place

-- a checked copy among those listed
abbrev pub is_checked_copy : StandbyCopy → Bool
is_checked_copy c = c.is_listed && c.is_checked

-- the highest epoch found on a checked copy
abbrev pub highest : List StandbyCopy → ℕ
highest [] = 0
highest (c ∷ cs) = cond (is_checked_copy c) (max c.epoch (highest cs)) (highest cs)

-- a checked copy of the epoch `top`
abbrev pub is_candidate : ℕ → StandbyCopy → Bool
is_candidate top c = is_checked_copy c && eqb c.epoch top

-- the next outgoing number of a key's session, the largest where there are several; a session that is lacking counts as 1
abbrev pub next_of : Key → List Place → ℕ
next_of k [] = 1
next_of k (p ∷ ps) = cond (same_key k p.key) (max p.stored.session.next_out (next_of k ps)) (next_of k ps)

-- at least the other's number in each session of the other
abbrev pub is_ahead : List Place → List Place → Bool
is_ahead mine [] = true
is_ahead mine (p ∷ theirs) = leb p.stored.session.next_out (next_of p.key mine) && is_ahead mine theirs

-- ahead of each candidate (also of itself: every store is)
abbrev pub is_ahead_of_all : ℕ → List Place → List StandbyCopy → Bool
is_ahead_of_all top mine [] = true
is_ahead_of_all top mine (d ∷ ds) = (not (is_candidate top d) || is_ahead mine d.places) && is_ahead_of_all top mine ds

-- a copy fits: a candidate that is ahead of every candidate
abbrev pub fits_rule : List StandbyCopy → StandbyCopy → Bool
fits_rule cs c = is_candidate (highest cs) c && is_ahead_of_all (highest cs) c.places cs

-- the number of the first of these that fits, or how many they are
abbrev pub first_that_fits : List StandbyCopy → List StandbyCopy → ℕ
first_that_fits all [] = 0
first_that_fits all (c ∷ cs) = cond (fits_rule all c) 0 (suc (first_that_fits all cs))

-- the copy that takes over, or how many there are where none fits
unfoldable pub chosen : List StandbyCopy → ℕ
chosen cs = first_that_fits cs cs
