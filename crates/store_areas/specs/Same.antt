-- What every change of a store keeps: its shape, and whose areas they are. Assumes nothing.
use Rattle.std.specs.Prelude.{◌≡◌}
use Rattle.store_areas.specs.declared.store.Store.{Store}

pub record SameAreas (s s' : Store) : Type 0 where
  pub shape : s'.shape ≡ s.shape
  pub words : s'.words.ghost_name ≡ s.words.ghost_name
  pub bytes : s'.bytes.ghost_name ≡ s.bytes.ghost_name
