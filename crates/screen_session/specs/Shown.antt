-- What is shown of a place of the store. Assumes nothing.
use Rattle.std.specs.Prelude.{ℕ, ◌≡◌, cond, List, [], ◌∷◌, ◌++◌, length, take, codes, decimal}
use Rattle.std.proofs.Math.Option.{Option, none, some}
use Rattle.model_session.specs.Summary.{numbered_from}
use Rattle.model_standby.specs.Store.{Place}
use Rattle.model_screen.specs.Columns.{lines, at_right, at_left}
use Rattle.model_screen.specs.SessionText.{key_parts, stored_parts, flight_parts, or_words, yes_or_no, session_text}
use Rattle.store_areas.specs.declared.Shape.{Shape}
use Rattle.store_areas.specs.Areas.{in_use, place_at}

-- the text of the session at place i; none where the areas break the rules or the place is not in use
unfoldable pub screen_at : Shape → List ℕ → List ℕ → ℕ → Option (List ℕ)
screen_at s w b i = cond (in_use s w b i) (some (session_text i (place_at s w b i))) none

-- ---- of functions within

-- the same lines, of the messages as they are read: stored numbers are from 1 on
abbrev pub lines_of : ℕ → Place → List ℕ
lines_of i x =
    lines
    (key_parts i x.key
    ∷ ((codes "      next outgoing " ++ at_right 12 (decimal x.stored.session.next_out)) ∷ stored_parts (numbered_from 1 x.stored.session.messages))
    ∷ ((codes "      next incoming " ++ at_right 12 (decimal x.stored.session.next_in)) ∷ flight_parts x.stored.session.in_flight)
    ∷ ((codes "      since " ++ at_left 20 (or_words (codes "no time") x.stored.session.stamp)) ∷ codes "   marks      " ∷ or_words (codes "none") x.stored.session.marks ∷ [])
    ∷ ((codes "      durable " ++ yes_or_no x.stored.durable) ∷ [])
    ∷ [])

unfoldable pub shown_lines : Shape → List ℕ → List ℕ → ℕ → List ℕ
shown_lines s w b i = lines_of i (place_at s w b i)

-- the start of an area has a text
pub record WritesText (t area : List ℕ) (n : ℕ) : Type 0 where
  pub size : n ≡ length t
  pub is : take n area ≡ t
