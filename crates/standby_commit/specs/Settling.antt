-- What a frame may change in the store, and what a Commit or LastWhole does at its session's place. Assumes nothing.
use Rattle.std.specs.Prelude.{◌≡◌, Bool, cond, not, ◌&&◌, List, [], ◌∷◌, ◌++◌, ℕ, ◌+◌, ◌*◌, set}
use Rattle.model_frame.specs.Frame.{Change, Part, commit, whole, last_whole}
use Rattle.model_session.specs.Session.{fits}
use Rattle.model_standby.specs.Store.{on_place, changed}
use Rattle.store_place.specs.Only.{Only}
use Rattle.store_areas.specs.StoreWord
use Rattle.store_areas.specs.declared.Shape.{Shape}
use Rattle.store_areas.specs.Areas.{place_words, place_bytes, words_at, bytes_at, Rules, place_at, places_of, used_of}
use Rattle.standby_pending.specs.Pending.{count_of, handle_count, pending_of}

-- ---- what a frame changes, commits that are due apart

-- nothing; the session of a new key at place i; the session at place i, and one commit more is pending, of the handle h
pub data StoreChange : Type 0 where
  stays : StoreChange
  opens : ℕ → StoreChange
  commits : ℕ → ℕ → StoreChange

-- a Bind, with the place of its key, whether it is stored, and whether the Bind is accepted
abbrev pub bind_change : ℕ → Bool → Bool → StoreChange
bind_change i stored taken = cond (taken && not stored) (opens i) stays

-- a Batch on the handle h with place i, if it is accepted; a Whole changes no session
abbrev pub batch_change : ℕ → ℕ → Part → Bool → StoreChange
batch_change h i commit taken = cond taken (commits h i) stays
batch_change h i whole taken = stays
batch_change h i last_whole taken = cond taken (commits h i) stays

-- ---- what that leaves of the areas

-- one place more is in use
abbrev pub opened_words : List ℕ → List ℕ
opened_words w = set w StoreWord.used (used_of w + 1)

-- one commit more is pending: the slot behind those that pend has it, and it is counted
abbrev pub pended_words : ℕ → ℕ → List ℕ → List ℕ
pended_words h i w = set (set w (StoreWord.commits + count_of w) (i * handle_count + h)) StoreWord.pending (count_of w + 1)

-- only the words and the bytes of place i may have changed
pub record Touched (s : Shape) (i : ℕ) (w w' b b' : List ℕ) : Type 0 where
  pub words : Only (words_at s i) (words_at s i + place_words s) w w'
  pub bytes : Only (bytes_at s i) (bytes_at s i + place_bytes s) b b'

-- both areas as they were; or the counts and slots as said, and no other word or byte outside place i changed
abbrev pub StoreAfter : Shape → StoreChange → List ℕ → List ℕ → List ℕ → List ℕ → Type 0
StoreAfter s stays w w' b b' = (w' ≡ w) × (b' ≡ b)
StoreAfter s (opens i) w w' b b' = Touched s i (opened_words w) w' b b'
StoreAfter s (commits h i) w w' b b' = Touched s i (pended_words h i w) w' b b'

-- ---- a Commit or LastWhole

-- the changes fit, are made at place i, and one commit is pending on the handle h; or they don't, and nothing is changed
pub record Settles (s : Shape) (i h : ℕ) (cs : List Change) (w w' b b' : List ℕ) (yes : Bool) : Type 0 where
  pub is : yes ≡ fits (place_at s w b i).stored.session.next_out cs
  pub places : places_of s w' b' ≡ cond yes (on_place i (changed s.bytes s.messages cs) (places_of s w b)) (places_of s w b)
  pub pending : pending_of w' ≡ cond yes (pending_of w ++ ((h, i) ∷ [])) (pending_of w)
  pub rules : Rules s w' b'
  pub store_after : StoreAfter s (cond yes (commits h i) stays) w w' b b'
