-- The contracts of the entry points give what demand 3 takes as a step. Assumes nothing.
use base.Logic.{id⊢}
use borrow.Fn.World.{World}
use Rattle.theorem_whole_copy.specs.Entries.{Joined}

pub joined : (m : World) → Joined m
joined m =
    record {
      on_frame_held_gives = λ κs a r e. id⊢ m.𝓤 _;
      on_frame_held_asks_nothing = λ κs a. id⊢ m.𝓤 _;
      on_frame_gives = λ κs a r e. id⊢ m.𝓤 _;
      on_frame_asks_nothing = λ κs a. id⊢ m.𝓤 _;
      flush_gives = λ κs a r e. id⊢ m.𝓤 _;
      flush_asks_nothing = λ κs a. id⊢ m.𝓤 _;
      disconnected_from_gives = λ κs a r e. id⊢ m.𝓤 _;
      disconnected_from_asks_nothing = λ κs a. id⊢ m.𝓤 _;
      begin_gives = λ κs a r e. id⊢ m.𝓤 _;
      begin_asks_nothing = λ κs a. id⊢ m.𝓤 _;
      send_whole_gives = λ κs a r e. id⊢ m.𝓤 _;
      send_whole_asks_nothing = λ κs a. id⊢ m.𝓤 _;
    }
