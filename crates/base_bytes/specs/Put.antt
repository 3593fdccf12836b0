-- What a writer's methods leave: the bytes where it stood, and the place behind them, in the area that it had. Assumes nothing.
use Rattle.std.specs.Prelude.{ℕ, ◌≡◌, List, length}
use Rattle.base_laws.specs.Wrote.{Wrote}
use Rattle.base_bytes.specs.declared.writer.Writer.{Writer}

pub record Put (before : Writer) (bs : List ℕ) (after : Writer) : Type 0 where
  pub wrote : Wrote before.out.now before.at bs after.out.now after.at
  pub long : length after.out.now ≡ length before.out.now
  pub same : after.out.ghost_name ≡ before.out.ghost_name
