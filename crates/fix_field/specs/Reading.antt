-- What each step of the reader answers about one field of a file. Assumes nothing.
use Rattle.std.specs.Prelude.{◌≡◌, ℕ, zero, suc, ◌+◌, ◌-◌, ◌<◌, ◌≤◌, min, Bool, true, false, cond, ◌&&◌, List, [], ◌∷◌, length, drop, ◌≢◌, get_or, slice_index, slice_range, Option, Some, None}
use Rattle.model_session.specs.Session.{top}
use Rattle.model_fix.specs.Field.{ends_field, pieces_of, all_digits, number_in_digits, tag_of, value_of, is_field, has_tag}
use Rattle.fix_field.specs.declared.FixField.{FixField}

-- the bytes of s from a up to e
abbrev pub part : List ℕ → ℕ → ℕ → List ℕ
part s a e = slice_range s a e

-- how many bytes stand before the first byte 01
abbrev pub until_end : List ℕ → ℕ
until_end [] = zero
until_end (b ∷ s) = cond (ends_field b) zero (suc (until_end s))

-- n bytes of s from `at` on are no byte 01
abbrev pub FreeRun : List ℕ → ℕ → ℕ → Type 0
FreeRun s at n = (k : ℕ) → k < n → slice_index s (at + k) ≢ 1

-- no byte 01 stands from `from` up to i: the next one is the same from there
pub record Reaches (s : List ℕ) (from i : ℕ) : Type 0 where
  pub same : from + until_end (drop from s) ≡ i + until_end (drop i s)
  pub within : i ≤ length s

-- the text is digits, and this is their number, at most 2^64 - 1
pub record NumberIs (text : List ℕ) (n : ℕ) : Type 0 where
  pub digits : all_digits text ≡ true
  pub value : n ≡ min (number_in_digits text) top

-- the number of a text of digits, or none
abbrev pub ReadsNumber : List ℕ → Option ℕ → Type 0
ReadsNumber text (Some n) = NumberIs text n
ReadsNumber text None = all_digits text ≡ false

-- `=` stands at eq, then a value and its byte 01
pub record Closed (file : List ℕ) (eq : ℕ) : Type 0 where
  pub equals : slice_index file eq ≡ 61
  pub value : 0 < until_end (drop (eq + 1) file)
  pub ended : eq + 1 + until_end (drop (eq + 1) file) < length file

-- that field, or none
abbrev pub Closes : List ℕ → ℕ → Option FixField → Type 0
Closes file eq (Some f) = (f ≡ record { eq = eq; end = eq + 1 + until_end (drop (eq + 1) file) + 1 }) × Closed file eq
Closes file eq None = Closed file eq → ⊥

-- the first piece from `at` on is a field, cut at its `=` and its end
pub record FieldIs (file : List ℕ) (at eq end : ℕ) : Type 0 where
  pub cut : pieces_of (drop at file) ≡ part file at end ∷ pieces_of (drop end file)
  pub field : is_field (part file at end) ≡ true
  pub tag : tag_of (part file at end) ≡ part file at eq
  pub value : value_of (part file at end) ≡ part file (eq + 1) (end - 1)
  pub some_tag : at < eq
  pub some_value : eq + 3 ≤ end
  pub within : end ≤ length file

abbrev pub starts_field : List (List ℕ) → Bool
starts_field [] = false
starts_field (p ∷ ps) = is_field p

abbrev pub FieldAt : List ℕ → ℕ → Option FixField → Type 0
FieldAt file at (Some f) = FieldIs file at f.eq f.end
FieldAt file at None = starts_field (pieces_of (drop at file)) ≡ false

-- the first piece is a field with this tag
pub record TaggedIs (tag file : List ℕ) (at eq end : ℕ) : Type 0 where
  pub found : FieldIs file at eq end
  pub tagged : has_tag tag (part file at end) ≡ true

abbrev pub starts_tagged : List ℕ → List (List ℕ) → Bool
starts_tagged tag [] = false
starts_tagged tag (p ∷ ps) = is_field p && has_tag tag p

-- a tag: digits, the first no 0
pub record IsTag (tag : List ℕ) : Type 0 where
  pub digits : all_digits tag ≡ true
  pub some : 0 < length tag
  pub no_zero : get_or tag 0 0 ≢ 48

abbrev pub TaggedAt : List ℕ → List ℕ → ℕ → Option FixField → Type 0
TaggedAt tag file at (Some f) = TaggedIs tag file at f.eq f.end
TaggedAt tag file at None = starts_tagged tag (pieces_of (drop at file)) ≡ false
