-- Demand 3 on the code is no empty claim: areas of one place (C = 0, M = 0) that keep the rules, a handle bound in them, and a start. Assumes nothing.
use mathlib.Core.Path.{refl, ap}
use mathlib.Core.Bool.{Bool, true, ◌&&◌}
use mathlib.Core.List.{[], ◌∷◌}
use mathlib.Core.Option.{map}
use native.Mathlib.Omega.{arith}
use lib.ListN.{replicate}
use Rattle.model_text.specs.Printable.{is_printable_byte, is_printable, is_marks}
use Rattle.model_session.specs.Session.{new_session, Holdable}
use Rattle.model_session.specs.Whole.{whole_batches}
use Rattle.standby_segments.specs.Segments.{hold_areas}
use Rattle.standby_row.specs.declared.Bound.{Bound as BoundRecord}
use Rattle.store_areas.specs.Areas.{place_at, places_of, Rules}
use Rattle.store_areas.proofs.Ruling.{rules_true}
use Rattle.store_areas.proofs.Lifting.{place_is, session_is}
use Rattle.standby_segments.proofs.Meaning.{none_held}
use Rattle.model_text.specs.Version.{latest}
use Rattle.model_standby.specs.Store.{Place}
use Rattle.model_standby.specs.State.{Bound}
use Rattle.model_standby.proofs.Places.{own_made}
use Rattle.standby_part.specs.State.{bound_of}
use Rattle.standby_state.specs.declared.Settings.{Settings}
use Rattle.theorem_whole_copy.specs.Demand.{Lent, Start}

abbrev s₀ : Settings
s₀ = record { shape = record { places = 1; bytes = 0; messages = 0 }; incarnation = record { 0 = 7 }; max_lag = 0; tells_lowest = 1 }

abbrev h₀ : BoundRecord
h₀ = record { used = 1; handle = 9; place = 0; commit_no = record { 0 = 7 }; held_len = 0; held_bytes = 3 }

abbrev x₀ : Lent
x₀ =
    record {
      counters = record { epoch = record { 0 = 5 }; connections = 1; promoted = 0; checked = 0; version2 = 0 };
      row = h₀ ∷ [];
      words = 1 ∷ replicate 81 0;
      bytes = replicate 224 0;
      holds = hold_areas (replicate 122 0) [];
    }

abbrev p₀ : Place
p₀ = place_at s₀.shape x₀.words x₀.bytes 0

abbrev b₀ : Bound
b₀ = bound_of latest h₀ (hold_areas (replicate 122 0) [])

rules₀ : Rules s₀.shape x₀.words x₀.bytes
rules₀ = record { room = record { bytes_limit = omega arith; messages_limit = omega arith; words_long = omega arith; bytes_long = omega arith }; used = omega arith; pending = omega arith }

new_held : Holdable 0 0 new_session
unfolding is_marks is_printable is_printable_byte
new_held = record {
  stamp_ok = tt;
  out_low = omega arith;
  out_high = omega arith;
  inc_high = omega arith;
  flight_high = tt;
  marks_ok = tt;
  msgs_rise = tt;
  msgs_bytes = omega arith;
  msgs_count = omega arith;
}

pub a_start : Start s₀ 1048576 new_session p₀.stored.session (record { key = p₀.key; earlier = 0 }) 9 b₀ x₀
unfolding whole_batches
a_start = record {
  allowed = ap (λ (t : Bool). t && true) (rules_true s₀.shape x₀.words x₀.bytes rules₀);
  A_held = new_held;
  unpromoted = refl;
  bound_so = refl;
  is_B = session_is s₀.shape x₀.words x₀.bytes 0 (omega arith);
  its_key =
      own_made (places_of s₀.shape x₀.words x₀.bytes) 0 (record { key = p₀.key; earlier = 0 })
      (ap (map (λ (p : Place). p.key)) (place_is s₀.shape x₀.words x₀.bytes 0 (omega arith))) refl;
  nothing_held = none_held latest [];
  suits_so = refl;
  area = omega arith;
  handle_u32 = omega arith;
  epoch_u64 = omega arith;
  sendable = omega arith;
}
