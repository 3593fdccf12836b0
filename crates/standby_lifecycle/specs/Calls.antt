-- What promotion leaves and answers, of areas that keep the rules. Assumes nothing.
use Rattle.std.specs.Prelude.{ℕ, ◌≡◌, List, [], set}
use Rattle.store_place.specs.Only.{Only}
use Rattle.store_areas.specs.StoreWord
use Rattle.store_areas.specs.Areas.{words_at, bytes_at, Rules, places_of, used_of}
use Rattle.standby_pending.specs.Pending.{pending_of}
use Rattle.model_standby.specs.Store.{on_places, taken_over}
use Rattle.standby_counters.specs.declared.Replica.{Replica}
use Rattle.store_areas.specs.declared.Shape.{Shape}
use Rattle.standby_state.specs.declared.Outcome.{Outcome}
use Rattle.standby_state.specs.Answers.{is_done}
use Rattle.standby_state.specs.Outcomes.{clearing}

abbrev pub promoted_from : Replica → Replica
promoted_from c = record { epoch = c.epoch; connections = c.connections; promoted = 1; checked = c.checked; version2 = c.version2 }

pub record Promoted (s : Shape) (lag : ℕ) (c : Replica) (w w' b b' : List ℕ) (r : Outcome) : Type 0 where
  pub is : r ≡ clearing (promoted_from c) is_done
  pub places : places_of s w' b' ≡ on_places (taken_over lag) (places_of s w b)
  pub pending : pending_of w' ≡ []
  pub rules : Rules s w' b'
  pub used : used_of w' ≡ used_of w
  pub words : Only StoreWord.places (words_at s (used_of w)) (set w StoreWord.pending 0) w'
  pub bytes : Only 0 (bytes_at s (used_of w)) b b'
