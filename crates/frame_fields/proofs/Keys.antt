-- A key, judged by its four texts' own flags. Assumes nothing.
use mathlib.Core.Path.{◌≡◌}
use mathlib.Core.Bool.{Bool, ◌&&◌}
use mathlib.Core.List.{List}
use Prim.Native.Nat.{ℕ}
use Rattle.model_text.specs.Printable.{is_printable, is_key}

pub key_told : (a b c d : List ℕ) {v w x y : Bool} → v ≡ is_printable 1 32 a → w ≡ is_printable 1 32 b → x ≡ is_printable 1 32 c → y ≡ is_printable 0 32 d → is_key a b c d ≡ (((v && w) && x) && y)
unfolding is_key
key_told a b c d e f g h = rw (e, f, g, h)
