-- What is answered by the counters alone: the store's places stay as they are, and pending commits go with the bindings. Assumes nothing.
use Rattle.std.specs.Prelude.{ℕ, suc, min, ◌≡◌, Bool, false, cond, List, []}
use Rattle.model_frame.specs.Parse.{is_empty}
use Rattle.model_session.specs.Session.{top}
use Rattle.frame_fields.specs.declared.Epoch.{Epoch}
use Rattle.model_standby.specs.Store.{Place}
use Rattle.model_standby.specs.State as state
use Rattle.model_standby.specs.Core.{Core, CoreResult, core_hello, core_checked}
use Rattle.standby_segments.specs.Segments.{Holds, Lengths}
use Rattle.standby_counters.specs.declared.Replica.{Replica}
use Rattle.standby_state.specs.declared.Settings.{Settings}
use Rattle.standby_state.specs.declared.Outcome.{Outcome}
use Rattle.standby_state.specs.Answers.{answer_of}
use Rattle.standby_state.specs.Exact.{Exact}
use Rattle.standby_state.specs.Outcomes.{counters_of, settings_of, action_of, clears, stores}

-- by a Hello of this version, as the counters have it
abbrev pub connected_to : Replica → Epoch → ℕ → Replica
connected_to c e version2 = record { epoch = e; connections = min (suc c.connections) top; promoted = c.promoted; checked = c.checked; version2 = version2 }

abbrev pub checked_to : Replica → Epoch → Replica
checked_to c e = record { epoch = e; connections = c.connections; promoted = c.promoted; checked = 1; version2 = c.version2 }

-- equal to the definition m, whatever the places, the pending commits and the hold areas; no record is put
pub record Replies (c : Replica) (s : Settings) (m : state.Settings → Core → CoreResult) (r : Outcome) : Type 0 where
  pub is : (version : ℕ) (room : Lengths) (holds : Holds) (b : List ℕ) (ps : List Place) (pending : List (ℕ × ℕ))
      → record {
        core = record { counters = counters_of r.replica; places = ps; pending = cond (clears r.action) [] pending };
        action = action_of version room holds r;
        answer = answer_of b r.answer;
      }
      ≡ m (settings_of s room.bytes) (record { counters = counters_of c; places = ps; pending = pending })
  pub stays : stores r.action ≡ false
  pub exact : (b : List ℕ) → Exact b r.answer

abbrev pub HelloIs : Replica → Settings → ℕ → ℕ → Bool → Outcome → Type 0
HelloIs c s v e none r = (kinds : List ℕ) → is_empty kinds ≡ none → Replies c s (λ L k. core_hello L k v e kinds) r

abbrev pub CheckedIs : Replica → Settings → ℕ → ℕ → ℕ → Outcome → Type 0
CheckedIs c s h e i r = Replies c s (λ L k. core_checked L k h e i) r
