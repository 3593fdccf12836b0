-- Document 01's plain copy: fed the calls, with the answers of the standby.
-- Assumes nothing.
use Rattle.std.specs.Prelude.{ℕ, zero, suc, ◌+◌, List, [], ◌∷◌, ◌++◌, Bool, false, cond, ◌&&◌, eqb}
use Rattle.std.proofs.Math.Option.{Option, none, some, map}
use Rattle.std.proofs.Math.ListN.{get_elem?}
use Rattle.model_frame.specs.Frame.{Key, Change, Part, commit, whole, last_whole, Frame, hello, welcome, bind, batch, ack, nack, bound, checked}
use Rattle.model_session.specs.Session.{Session, apply_all}
use Rattle.model_standby.specs.Answer.{Given, damaged, intact, given, Answer, accepted, says_diverged}
use Rattle.model_standby.specs.Row.{find}
use Rattle.model_standby.specs.Store.{Place, same_key}
use Rattle.model_standby.specs.State.{Settings, Bound, Standby, Call, on_frame_held, on_frame, flush, disconnected_from, promote, promote_unchecked}
use Rattle.model_standby.specs.Standby.{step}

-- ---- the key of a session: its bytes, and how many earlier places have the same bytes. In every store that operations made that is 0, and the key is its
-- bytes (`apart_run`, `apart_found` in proofs/Apart); areas that hold one key twice are allowed too

pub record OwnKey : Type 0 where
  pub key : Key
  pub earlier : ℕ

-- how many of the first n places have the key k
abbrev pub key_count : Key → ℕ → List Place → ℕ
key_count k zero ps = 0
key_count k (suc n) [] = 0
key_count k (suc n) (x ∷ ps) = cond (same_key k x.key) 1 0 + key_count k n ps

-- the key of place n, if there is such a place
abbrev pub own_key : List Place → ℕ → Option OwnKey
own_key ps n = map (λ (x : Place). record { key = x.key; earlier = key_count x.key n ps }) (get_elem? ps n)

abbrev pub key_is : OwnKey → Option OwnKey → Bool
key_is k none = false
key_is k (some j) = same_key k.key j.key && eqb k.earlier j.earlier

-- ---- the copy

pub record Copy : Type 0 where
  pub session : Session
  -- of each handle
  pub key_of : ℕ → Option OwnKey
  pub held_of : ℕ → List Change

abbrev pub bound_key : List Place → Option Bound → Option OwnKey
bound_key ps none = none
bound_key ps (some b) = own_key ps b.place

abbrev pub bound_held : Option Bound → List Change
bound_held none = []
bound_held (some b) = b.held

-- at first: session B, and each handle's key and held changes
abbrev pub copy_at : Session → Standby → Copy
copy_at B s = record { session = B; key_of = λ h. bound_key s.places (find h s.handles); held_of = λ h. bound_held (find h s.handles) }

-- f, but v at h
abbrev pub set_at : {A : Type 0} → ℕ → A → (ℕ → A) → ℕ → A
set_at h v f x = cond (eqb x h) v (f x)

module _ (L : Settings) (k : OwnKey) where
  -- those held, then its own, applied if the key is the session's; none held
  abbrev pub copy_settle : Copy → ℕ → List Change → Copy
  copy_settle c h cs =
      record {
        session = cond (key_is k (c.key_of h)) (apply_all L.C L.M (c.held_of h ++ cs) c.session) c.session;
        key_of = c.key_of;
        held_of = set_at h [] c.held_of;
      }

  -- Whole: its changes added
  abbrev pub copy_batch : Copy → ℕ → Part → List Change → Copy
  copy_batch c h commit cs = copy_settle c h cs
  copy_batch c h whole cs = record { session = c.session; key_of = c.key_of; held_of = set_at h (c.held_of h ++ cs) c.held_of }
  copy_batch c h last_whole cs = copy_settle c h cs

  -- Bind, if accepted: its key, none held; Nack Diverged: none held; else nothing
  abbrev pub copy_frame : Copy → Frame → Answer → Copy
  copy_frame c (hello v e node kinds) a = c
  copy_frame c (welcome e i) a = c
  copy_frame c (bind h e lag j) a =
      cond (accepted a) (record { session = c.session; key_of = set_at h (some (record { key = j; earlier = 0 })) c.key_of; held_of = set_at h [] c.held_of }) c
  copy_frame c (batch h e n p cs apps) a =
      cond (accepted a) (copy_batch c h p cs)
      (cond (says_diverged a) (record { session = c.session; key_of = c.key_of; held_of = set_at h [] c.held_of }) c)
  copy_frame c (ack h n) a = c
  copy_frame c (nack h r) a = c
  copy_frame c (bound h m) a = c
  copy_frame c (checked h e i) a = c

  abbrev pub copy_given : Copy → Given → Answer → Copy
  copy_given c (damaged n) a = c
  copy_given c (intact f) a = copy_frame c f a

  -- read in the connection's version
  abbrev pub copy_step : ℕ → Copy → Call → Answer → Copy
  copy_step version c (on_frame_held w) a = copy_given c (given version w) a
  copy_step version c (on_frame w) a = copy_given c (given version w) a
  copy_step version c (flush n) a = c
  copy_step version c (disconnected_from n) a = c
  copy_step version c promote a = c
  copy_step version c promote_unchecked a = c

  -- the copy after a list of calls that the standby answers from s on
  abbrev pub copy_run : Copy → Standby → List Call → Copy
  copy_run c s [] = c
  copy_run c s (x ∷ xs) = copy_run (copy_step s.counters.version c x (step L s x).answer) (step L s x).state xs
