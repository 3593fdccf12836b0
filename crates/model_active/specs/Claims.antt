-- What is claimed of the books; proofs/Claims.antt shows it. Assumes nothing.
use Rattle.std.specs.Prelude.{◌≡◌, Bool, true, false, not, List, [], ◌∷◌, ◌++◌, ℕ, suc, min, ◌≤◌, ◌<◌, length, get_or}
use Rattle.std.proofs.Math.Option.{Option, none, some}
use Rattle.model_active.specs.CatchUp.{Entry, Book, Call, new_book, member, without, is, sessions, opens_of, is_open, met_that, falling, too_many, done, wait, picked, says, run, step, fall_behind, caught_up, next_to_catch_up, opening, all_compared}
use Rattle.model_active.specs.Passes.{SoundBook, Told, all_joining, distinct, turns}

-- whatever calls are made: nobody twice among those met or behind, those behind are met, at most 256
abbrev pub AlwaysSound : Type 0
AlwaysSound = (cs : List Call) → SoundBook (run new_book cs)

-- who was met keeps the place
abbrev pub KeepsPlace : Type 0
KeepsPlace = (b : Book) (c : Call) (k : ℕ) → k < length b.met → get_or (sessions (step b c).book.met) k 0 ≡ get_or (sessions b.met) k 0

-- 27 exactly where those met and those named are more than 256, each counted once; the book is then as it was
pub record FullExactly (b : Book) (c : Call) : Type 0 where
  pub only : (step b c).answer ≡ too_many → 256 < length (distinct b c)
  pub always : 256 < length (distinct b c) → (step b c).answer ≡ too_many
  pub unchanged : (step b c).answer ≡ too_many → (step b c).book ≡ b

-- who is behind already keeps the place; caught up and fallen again, it is the last
pub record FallsInOrder (b : Book) (s : ℕ) : Type 0 where
  pub behind_already : member s b.behind ≡ true → (step b (fall_behind s)).book.behind ≡ b.behind
  pub again : (i : ℕ) → member s b.behind ≡ true → (step (step b (caught_up s i)).book (fall_behind s)).book.behind ≡ without s b.behind ++ (s ∷ [])

-- together is one by one, in the order first met
abbrev pub TogetherAsMet : Book → (Entry → Bool) → Type 0
TogetherAsMet b p = b.behind ++ falling p b ≡ all_joining (met_that p b.met) b.behind

-- an open session is never picked
abbrev pub NeverOpen : Type 0
NeverOpen = (b : Book) (l : List ℕ) (i s : ℕ) → (step b (next_to_catch_up l i)).answer ≡ picked (some s) → is_open s b.met ≡ false

-- who is picked is the one being caught up then; where nobody is, none is
abbrev pub BecomesCaught : Type 0
BecomesCaught = (b : Book) (l : List ℕ) (i : ℕ) (o : Option ℕ) → (step b (next_to_catch_up l i)).answer ≡ picked o → (step b (next_to_catch_up l i)).book.catching ≡ o

-- opening waits for the one being caught up alone, and then counts nothing; else it counts one more, at most 2^64 - 1
pub record OpeningWaits (b : Book) (s : ℕ) : Type 0 where
  pub only : (step b (opening s)).answer ≡ wait → is b.catching s ≡ true
  pub counts_nothing : (step b (opening s)).answer ≡ wait → (t : ℕ) → opens_of t (step b (opening s)).book.met ≡ opens_of t b.met
  pub counts : (step b (opening s)).answer ≡ done → (is b.catching s ≡ false) × (opens_of s (step b (opening s)).book.met ≡ min (suc (opens_of s b.met)) 18446744073709551615)

-- told exactly so, where there is room for all listed
pub record TellsExactly (b : Book) (l : List ℕ) (i : ℕ) : Type 0 where
  pub only : (step b (all_compared l i)).answer ≡ says true → Told b l i
  pub always : Told b l i → (step b (all_compared l i)).answer ≡ says true

-- never while one is behind
abbrev pub NeverWhileBehind : Type 0
NeverWhileBehind = (b : Book) (l : List ℕ) (i s : ℕ) → member s b.behind ≡ true → (step b (all_compared l i)).answer ≡ says true → ⊥

-- a pass in which each one picked is caught up with its incarnation: after 256 turns, or more, nobody is left; and then, with no session open, Checked is told
-- unless it was acknowledged
pub record PassEnds (b : Book) (l : List ℕ) (i n : ℕ) : Type 0 where
  pub nobody : (step (turns n l i b) (next_to_catch_up l i)).answer ≡ picked none
  pub told : ((s : ℕ) → is_open s b.met ≡ false) → (step (turns n l i b) (all_compared l i)).answer ≡ says (not (is b.acknowledged i))

pub record Claims : Type 0 where
  pub always_sound : AlwaysSound
  pub keeps_place : KeepsPlace
  pub full_exactly : (b : Book) (c : Call) → SoundBook b → FullExactly b c
  pub falls_in_order : (b : Book) (s : ℕ) → SoundBook b → FallsInOrder b s
  pub together_as_met : (b : Book) (p : Entry → Bool) → SoundBook b → TogetherAsMet b p
  pub never_open : NeverOpen
  pub becomes_caught : BecomesCaught
  pub opening_waits : (b : Book) (s : ℕ) → OpeningWaits b s
  pub tells_exactly : (b : Book) (l : List ℕ) (i : ℕ) → SoundBook b → length (distinct b (all_compared l i)) ≤ 256 → TellsExactly b l i
  pub never_while_behind : NeverWhileBehind
  pub pass_ends : (b : Book) (l : List ℕ) (i n : ℕ) → SoundBook b → length (distinct b (next_to_catch_up l i)) ≤ 256 → 256 ≤ n → PassEnds b l i n
