-- Printable ASCII, 20 to 7E (hexadecimal): marks and keys. Assumes nothing.
use Rattle.std.specs.Prelude.{Bool, true, ◌&&◌, List, [], ◌∷◌, ℕ, leb, length}

unfoldable pub is_printable_byte : ℕ → Bool
is_printable_byte b = leb 0x20 b && leb b 0x7E

abbrev pub all_printable : List ℕ → Bool
all_printable [] = true
all_printable (b ∷ l) = is_printable_byte b && all_printable l

-- lo to hi printable bytes
unfoldable pub is_printable : ℕ → ℕ → List ℕ → Bool
is_printable lo hi s = leb lo (length s) && (leb (length s) hi && all_printable s)

-- marks: 0 to 64 bytes
unfoldable pub is_marks : List ℕ → Bool
is_marks s = is_printable 0 64 s

-- a key: begin string, sender and target of 1 to 32 bytes, a suffix of 0 to 32
unfoldable pub is_key : List ℕ → List ℕ → List ℕ → List ℕ → Bool
is_key begin sender target suffix = is_printable 1 32 begin && is_printable 1 32 sender && is_printable 1 32 target && is_printable 0 32 suffix
