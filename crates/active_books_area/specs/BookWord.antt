-- The words of a book's area. Assumes nothing.
use Rattle.std.specs.Prelude.{ℕ}

-- how many sessions were met, how many are behind
abbrev pub met_count : ℕ
met_count = 0

abbrev pub behind_count : ℕ
behind_count = 1

-- whether a session is being caught up, and which
abbrev pub is_catching : ℕ
is_catching = 2

abbrev pub catching : ℕ
catching = 3

-- whether an incarnation's Checked was acknowledged, and the last that was
abbrev pub is_acknowledged : ℕ
is_acknowledged = 4

abbrev pub acknowledged : ℕ
acknowledged = 5

-- 256 words each from here on: the sessions met, how many logs are open on each, whether each was compared, with which incarnation, and the sessions behind
abbrev pub sessions : ℕ
sessions = 6

abbrev pub opens : ℕ
opens = 262

abbrev pub compared : ℕ
compared = 518

abbrev pub incarnations : ℕ
incarnations = 774

abbrev pub behind : ℕ
behind = 1030

-- the end
abbrev pub size : ℕ
size = 1286
