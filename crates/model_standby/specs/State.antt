-- The standby's state, and the calls on it.
-- Assumes nothing.
use Rattle.std.specs.Prelude.{ℕ, suc, min, max, List, [], Bool, true, false, replicate}
use Rattle.std.proofs.Math.Option.{none}
use Rattle.model_text.specs.Version.{first}
use Rattle.model_frame.specs.Frame.{Change}
use Rattle.model_session.specs.Session.{top}
use Rattle.model_standby.specs.Row.{Row}
use Rattle.model_standby.specs.Store.{Place}
use Rattle.model_standby.specs.Answer.{Answer}

-- what no call changes
pub record Settings : Type 0 where
  -- the store's limits C and M of a session, and its number S of session places
  pub C : ℕ
  pub M : ℕ
  pub S : ℕ
  -- the length of each handle's hold area
  pub room : ℕ
  -- the incarnation given, the accepted lag
  pub incarnation : ℕ
  pub lag : ℕ

-- 0 is taken as 1
abbrev pub incarnation_of : Settings → ℕ
incarnation_of L = max L.incarnation 1

pub record Counters : Type 0 where
  pub epoch : ℕ
  pub connections : ℕ
  pub promoted : Bool
  pub checked : Bool
  -- the connection's version: the first until a Hello is accepted, then that Hello's, also past a drop
  pub version : ℕ

-- a bound handle: the number of its session's place, its commit number, the held changes and their message bytes
pub record Bound : Type 0 where
  pub place : ℕ
  pub number : ℕ
  pub held : List Change
  pub bytes : ℕ

pub record Standby : Type 0 where
  pub counters : Counters
  pub places : List Place
  pub handles : Row Bound
  -- the handle of each pending commit, and the number of its session's place
  pub pending : List (ℕ × ℕ)

-- on_frame_held and on_frame take the bytes of a frame, flush and disconnected_from a connection
pub data Call : Type 0 where
  on_frame_held : List ℕ → Call
  on_frame : List ℕ → Call
  flush : ℕ → Call
  disconnected_from : ℕ → Call
  promote : Call
  promote_unchecked : Call

pub record Result : Type 0 where
  pub state : Standby
  pub answer : Answer

-- as made over a store with these places, with n places for handles
abbrev pub new_standby : List Place → ℕ → Standby
new_standby ps n =
    record {
      counters = record { epoch = 0; connections = 0; promoted = false; checked = false; version = first };
      places = ps;
      handles = replicate n none;
      pending = [];
    }

-- ---- the counters

abbrev pub at_epoch : ℕ → Counters → Counters
at_epoch e c = record { epoch = e; connections = c.connections; promoted = c.promoted; checked = c.checked; version = c.version }

-- a Hello of this version is accepted; the connection count stops at 2^64 - 1
abbrev pub connected : ℕ → ℕ → Counters → Counters
connected v e c = record { epoch = e; connections = min (suc c.connections) top; promoted = c.promoted; checked = c.checked; version = v }

abbrev pub checked_at : ℕ → Counters → Counters
checked_at e c = record { epoch = e; connections = c.connections; promoted = c.promoted; checked = true; version = c.version }

abbrev pub promoted_to : Counters → Counters
promoted_to c = record { epoch = c.epoch; connections = c.connections; promoted = true; checked = c.checked; version = c.version }

-- ---- handles

abbrev pub new_bound : ℕ → Bound
new_bound p = record { place = p; number = 0; held = []; bytes = 0 }

-- the byte sum always goes with the held changes
abbrev pub none_held : Bound → Bound
none_held b = record { place = b.place; number = b.number; held = []; bytes = 0 }

abbrev pub numbered : ℕ → Bound → Bound
numbered n b = record { place = b.place; number = n; held = b.held; bytes = b.bytes }
