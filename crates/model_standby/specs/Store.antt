-- The store: session places in use, each with a key and what is stored there; what commits and promotion do to them.
-- Assumes nothing.
use Rattle.std.specs.Prelude.{ℕ, zero, suc, ◌+◌, ◌-◌, min, List, [], ◌∷◌, ◌++◌, Bool, true, false, cond, ◌&&◌, length, get_or, take, ltb, leb, eqb}
use Rattle.std.proofs.Math.Option.{Option, none, some, map}
use Rattle.std.proofs.Math.ListN.{get_elem?}
use Rattle.model_frame.specs.Frame.{Key, Change}
use Rattle.model_frame.specs.Parse.{is_empty}
use Rattle.model_session.specs.Session.{Session, new_session, apply_all, top}

pub record Stored : Type 0 where
  pub session : Session
  pub durable : Bool

pub record Place : Type 0 where
  pub key : Key
  pub stored : Stored

-- ---- keys

abbrev pub same_bytes : List ℕ → List ℕ → Bool
same_bytes [] [] = true
same_bytes [] (y ∷ ys) = false
same_bytes (x ∷ xs) [] = false
same_bytes (x ∷ xs) (y ∷ ys) = eqb x y && same_bytes xs ys

abbrev pub same_key : Key → Key → Bool
same_key a b = same_bytes a.begin b.begin && (same_bytes a.sender b.sender && (same_bytes a.target b.target && same_bytes a.suffix b.suffix))

-- the number of the first place with the key k; the number of places if none has it
abbrev pub place_of : Key → List Place → ℕ
place_of k [] = 0
place_of k (x ∷ ps) = cond (same_key k x.key) 0 (suc (place_of k ps))

abbrev pub is_stored : Key → List Place → Bool
is_stored k ps = ltb (place_of k ps) (length ps)

-- ---- what is stored

-- the session at place n, if there is such a place
abbrev pub session_at : List Place → ℕ → Option Session
session_at ps n = map (λ (x : Place). x.stored.session) (get_elem? ps n)

abbrev pub or_new : Option Session → Session
or_new none = new_session
or_new (some x) = x

-- a place with the new session of k, which isn't marked as durable
abbrev pub new_place : Key → Place
new_place k = record { key = k; stored = record { session = new_session; durable = false } }

-- the places with one for k, at the end if it is new
abbrev pub opened : Key → List Place → List Place
opened k ps = cond (is_stored k ps) ps (ps ++ (new_place k ∷ []))

abbrev pub on_stored : (Stored → Stored) → Place → Place
on_stored f x = record { key = x.key; stored = f x.stored }

-- f on what is stored at place n; nothing if there is no such place
abbrev pub on_place : ℕ → (Stored → Stored) → List Place → List Place
on_place n f [] = []
on_place zero f (x ∷ ps) = on_stored f x ∷ ps
on_place (suc n) f (x ∷ ps) = x ∷ on_place n f ps

abbrev pub on_places : (Stored → Stored) → List Place → List Place
on_places f [] = []
on_places f (x ∷ ps) = on_stored f x ∷ on_places f ps

-- ---- changes, commits, promotion

-- within C and M; any change unmarks the session
abbrev pub changed : ℕ → ℕ → List Change → Stored → Stored
changed C M cs d = record { session = apply_all C M cs d.session; durable = d.durable && is_empty cs }

abbrev pub mark_durable : Stored → Stored
mark_durable d = record { session = d.session; durable = true }

-- commits (handle, place) run: each marks its session
abbrev pub mark_all : List (ℕ × ℕ) → List Place → List Place
mark_all [] ps = ps
mark_all (c ∷ cs) ps = mark_all cs (on_place c.1 mark_durable ps)

-- a final B (already B: unchanged; 64 bytes: last replaced)
abbrev pub with_b : List ℕ → List ℕ
with_b m =
    cond (ltb 0 (length m) && eqb (get_or m (length m - 1) 0) 66) m
    (cond (leb 64 (length m)) (take 63 m ++ (66 ∷ [])) (m ++ (66 ∷ [])))

-- promotion: numbers are skipped for the lag, marks get a final B, the session is marked
abbrev pub taken_over : ℕ → Stored → Stored
taken_over lag d =
    record {
      session =
          record {
            stamp = d.session.stamp;
            next_out = cond (ltb 0 lag) (min (d.session.next_out + lag) top) d.session.next_out;
            next_in = d.session.next_in;
            in_flight = d.session.in_flight;
            marks = with_b d.session.marks;
            messages = d.session.messages;
          };
      durable = true;
    }
