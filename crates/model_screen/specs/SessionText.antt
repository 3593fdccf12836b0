-- What is shown of a session: five lines, of which a long key takes more. Assumes nothing.
use Rattle.std.specs.Prelude.{ℕ, suc, Bool, cond, List, [], ◌∷◌, ◌++◌, length, decimal, codes}
use Rattle.std.proofs.Math.Option.{Option, none, some}
use Rattle.model_frame.specs.Frame.{Key}
use Rattle.model_session.specs.Session.{Msg, stored_bytes}
use Rattle.model_standby.specs.Store.{Place}
use Rattle.model_screen.specs.Columns.{at_right, at_left, grouped, lines}

-- the number of the last of some messages; n if there is none
abbrev pub last_number : ℕ → List Msg → ℕ
last_number n [] = n
last_number n (m ∷ ms) = last_number m.num ms

-- ---- the parts of the lines

abbrev pub suffix_parts : List ℕ → List (List ℕ)
suffix_parts [] = []
suffix_parts (b ∷ bs) = (codes "/ " ++ (b ∷ bs)) ∷ []

abbrev pub key_parts : ℕ → Key → List (List ℕ)
key_parts i k = at_right 2 (decimal i) ∷ (codes " " ++ k.begin) ∷ (codes " " ++ k.sender) ∷ (codes "-> " ++ k.target) ∷ suffix_parts k.suffix

-- first and last number, how many, how many bytes
abbrev pub stored_parts : List Msg → List (List ℕ)
stored_parts [] = codes "   stored      none" ∷ []
stored_parts (m ∷ ms) =
    (codes "   stored      " ++ decimal m.num) ∷ (codes "to " ++ decimal (last_number m.num ms) ++ codes ":") ∷ (grouped (suc (length ms)) ++ codes ",")
    ∷ (grouped (stored_bytes (m ∷ ms)) ++ codes " bytes") ∷ []

abbrev pub flight_parts : Option ℕ → List (List ℕ)
flight_parts none = codes "   in flight   none" ∷ []
flight_parts (some n) = (codes "   in flight   " ++ decimal n ++ codes ":") ∷ codes "handed over," ∷ codes "not yet counted" ∷ []

abbrev pub or_words : List ℕ → List ℕ → List ℕ
or_words words [] = words
or_words words (b ∷ bs) = b ∷ bs

abbrev pub yes_or_no : Bool → List ℕ
yes_or_no t = cond t (codes "yes") (codes "no")

-- ---- the lines

abbrev pub session_lines : ℕ → Place → List (List (List ℕ))
session_lines i x =
    key_parts i x.key
    ∷ ((codes "      next outgoing " ++ at_right 12 (decimal x.stored.session.next_out)) ∷ stored_parts x.stored.session.messages)
    ∷ ((codes "      next incoming " ++ at_right 12 (decimal x.stored.session.next_in)) ∷ flight_parts x.stored.session.in_flight)
    ∷ ((codes "      since " ++ at_left 20 (or_words (codes "no time") x.stored.session.stamp)) ∷ codes "   marks      " ∷ or_words (codes "none") x.stored.session.marks ∷ [])
    ∷ ((codes "      durable " ++ yes_or_no x.stored.durable) ∷ [])
    ∷ []

-- the session at place i
unfoldable pub session_text : ℕ → Place → List ℕ
session_text i x = lines (session_lines i x)
