-- The contracts of the entry points give what the theorem takes as a call. Assumes nothing.
use base.Logic.{id⊢}
use borrow.Fn.World.{World}
use Rattle.theorem_whole_copy.proofs.Entries as whole_copy
use Rattle.theorem_two_actives.specs.Entries.{Joined}

pub joined : (m : World) → Joined m
joined m =
    record {
      frames_flush_drop = whole_copy.joined m;
      promote_gives = λ κs a r e. id⊢ m.𝓤 _;
      promote_asks_nothing = λ κs a. id⊢ m.𝓤 _;
      promote_unchecked_gives = λ κs a r e. id⊢ m.𝓤 _;
      promote_unchecked_asks_nothing = λ κs a. id⊢ m.𝓤 _;
    }
